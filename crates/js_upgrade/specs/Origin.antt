-- Which keyword of a schema a keyword of the upgraded schema comes from: a line for each name that may come from
-- another, from the first draft on in which it is its own.
use Rattle.std.specs.Prelude.{Bool, true, false, ◌&&◌, List, [], ◌∷◌, bytes_eq, codes, unwrap_or, if◌then◌else◌}
use Rattle.js_doc.specs.Members.{get}
use Rattle.js_doc.specs.Value.{Text, Named}
use Rattle.js_upgrade.specs.Dialect.{found, is_before}
use Rattle.js_upgrade.specs.Schema.{holder, is_some_list}
use Rattle.js_upgrade.specs.declared.dialect.Dialect.{Dialect}
use Rattle.js_upgrade.specs.declared.dialect.Dialect.TheVariants.{Draft04, Draft06, Draft2019, Draft2020}

-- `listed`: `items` is a list
module _ (d : Dialect) (listed : Bool) where
  abbrev pub until_own : Dialect → Text → Text → Text
  until_own draft new old = if is_before d draft then old else new

  abbrev pub origin_rows : List (Text × Text)
  origin_rows =
      (codes "$id", until_own Draft06 (codes "$id") (codes "id"))
      ∷ (codes "$anchor", until_own Draft06 (until_own Draft2019 (codes "$anchor") (codes "$id")) (codes "id"))
      ∷ (codes "$dynamicRef", until_own Draft2020 (codes "$dynamicRef") (codes "$recursiveRef"))
      ∷ (codes "$dynamicAnchor", until_own Draft2020 (codes "$dynamicAnchor") (codes "$recursiveAnchor"))
      ∷ (codes "$defs", until_own Draft2019 (codes "$defs") (codes "definitions"))
      ∷ (codes "allOf", until_own Draft04 (codes "allOf") (codes "extends"))
      ∷ (codes "anyOf", until_own Draft04 (codes "anyOf") (codes "type"))
      ∷ (codes "not", until_own Draft04 (codes "not") (codes "disallow"))
      ∷ (codes "prefixItems", until_own Draft2020 (codes "prefixItems") (codes "items"))
      ∷ (codes "items", until_own Draft2020 (codes "items") (if listed then codes "additionalItems" else codes "items"))
      ∷ (codes "dependentRequired", until_own Draft2019 (codes "dependentRequired") (codes "dependencies"))
      ∷ (codes "dependentSchemas", until_own Draft2019 (codes "dependentSchemas") (codes "dependencies"))
      ∷ (codes "required", until_own Draft04 (codes "required") (codes "properties"))
      ∷ (codes "multipleOf", until_own Draft04 (codes "multipleOf") (codes "divisibleBy"))
      ∷ (codes "exclusiveMaximum", until_own Draft06 (codes "exclusiveMaximum") (codes "maximum"))
      ∷ (codes "exclusiveMinimum", until_own Draft06 (codes "exclusiveMinimum") (codes "minimum"))
      ∷ []

  abbrev pub origin_by : Text → Text
  origin_by name = unwrap_or (found origin_rows name) name

-- `contains` of 2019-09 goes into another keyword
abbrev pub moves_contains : Dialect → Bool
moves_contains Draft2019 = true
moves_contains _ = false

-- into this one
abbrev pub or_contains : Bool → Text → (Text → Text) → Text → Text
or_contains moves held other name = if moves && bytes_eq name held then codes "contains" else other name

-- of the keyword with this name
abbrev pub origin : Dialect → Named → Text → Text
origin d siblings name =
    or_contains (moves_contains d) (holder siblings) (origin_by d (is_some_list (get (codes "items") siblings))) name
