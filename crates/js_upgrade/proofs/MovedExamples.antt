-- Where parts of schemas of older drafts stand in 2020-12.
use Rattle.std.proofs.Common.{◌≡◌, [], ◌∷◌, Some, None, codes, refl}
use Rattle.std.specs.Fmt.{digits}
use Rattle.js_doc.specs.Pointer.{Tokens}
use Rattle.js_doc.specs.Value.{text, Named}
use Rattle.js_upgrade.specs.Dialect.{version_named}
use Rattle.js_upgrade.specs.Keyword.{core_change, applicator_change, assertion_change}
use Rattle.js_upgrade.specs.Moved.{moved_tokens}
use Rattle.js_upgrade.specs.Schema.{is_simple_type}
use Rattle.js_upgrade.specs.declared.dialect.Dialect.{Dialect}
use Rattle.js_upgrade.specs.declared.dialect.Dialect.TheVariants.{Draft03}
use Rattle.js_upgrade.specs.declared.dialect.Dialect.TheVariants.{Draft07, Draft2019, Draft2020}
use Rattle.js_upgrade.specs.declared.holding.SchemaHolding.TheVariants.{One}
use Rattle.js_upgrade.proofs.Examples.{arr, is_null, is_string, names_04, obj}

-- what stands at the one place in a schema of the draft stands at the other afterwards
abbrev Moves : Dialect → Named → Tokens → Tokens → Type 0
Moves d schema old new = moved_tokens One d (obj schema) old ≡ Some new

-- it stands nowhere
abbrev Goes : Dialect → Named → Tokens → Type 0
Goes d schema old = moved_tokens One d (obj schema) old ≡ None

-- ---- definitions and items

abbrev nested : Named
nested = (
  codes "definitions",
  obj ((codes "a", obj ((codes "items", arr (is_null ∷ is_string ∷ [])) ∷ [])) ∷ []),
) ∷ []

definitions : Moves Draft07 nested (codes "definitions" ∷ codes "a" ∷ codes "items" ∷ codes "1" ∷ [])
    (codes "$defs" ∷ codes "a" ∷ codes "prefixItems" ∷ codes "1" ∷ [])
unfolding core_change applicator_change assertion_change digits
definitions = refl

definitions_in_2020 : Moves Draft2020 nested (codes "definitions" ∷ codes "a" ∷ codes "items" ∷ codes "1" ∷ [])
    (codes "definitions" ∷ codes "a" ∷ codes "items" ∷ codes "1" ∷ [])
unfolding core_change applicator_change assertion_change digits
definitions_in_2020 = refl

beyond : Goes Draft07 nested (codes "definitions" ∷ codes "a" ∷ codes "items" ∷ codes "2" ∷ [])
unfolding core_change applicator_change assertion_change digits
beyond = refl

behind_list : Moves Draft07 ((codes "additionalItems", is_null) ∷ (codes "items", arr (is_null ∷ [])) ∷ [])
    (codes "additionalItems" ∷ []) (codes "items" ∷ [])
unfolding core_change applicator_change assertion_change
behind_list = refl

no_list : Goes Draft07 ((codes "additionalItems", is_null) ∷ []) (codes "additionalItems" ∷ [])
unfolding core_change applicator_change assertion_change
no_list = refl

-- ---- members that have the names of keywords

names : Moves Draft07 ((codes "properties", obj ((codes "definitions", is_null) ∷ [])) ∷ [])
    (codes "properties" ∷ codes "definitions" ∷ []) (codes "properties" ∷ codes "definitions" ∷ [])
unfolding core_change applicator_change assertion_change
names = refl

-- ---- dependencies

depending : Moves Draft07 ((codes "dependencies", obj ((codes "a", is_null) ∷ [])) ∷ [])
    (codes "dependencies" ∷ codes "a" ∷ []) (codes "dependentSchemas" ∷ codes "a" ∷ [])
unfolding core_change applicator_change assertion_change
depending = refl

-- ---- what the dialect doesn't know, and what a reference hides

unknown : Moves Draft07 ((codes "components", obj ((codes "a", is_null) ∷ [])) ∷ [])
    (codes "components" ∷ codes "a" ∷ []) (codes "components" ∷ codes "a" ∷ [])
unfolding core_change applicator_change assertion_change
unknown = refl

later : Goes Draft07 ((codes "$defs", obj ((codes "a", is_null) ∷ [])) ∷ []) (codes "$defs" ∷ codes "a" ∷ [])
unfolding core_change applicator_change assertion_change
later = refl

hidden : Goes Draft07 ((codes "$ref", text (codes "#")) ∷ (codes "not", is_null) ∷ []) (codes "not" ∷ [])
unfolding core_change applicator_change assertion_change
hidden = refl

-- ---- draft-03

abbrev several : Named
several = (codes "disallow", is_null) ∷ (codes "extends", is_null)
    ∷ (codes "type", arr (text (codes "string") ∷ is_null ∷ [])) ∷ []

extended : Moves Draft03 several (codes "extends" ∷ []) (codes "allOf" ∷ codes "0" ∷ [])
unfolding core_change applicator_change assertion_change is_simple_type
extended = refl

alternative : Moves Draft03 several (codes "type" ∷ codes "1" ∷ []) (codes "anyOf" ∷ codes "1" ∷ [])
unfolding core_change applicator_change assertion_change is_simple_type digits
alternative = refl

disallowed : Moves Draft03 several (codes "disallow" ∷ []) (codes "not" ∷ codes "anyOf" ∷ codes "0" ∷ [])
unfolding core_change applicator_change assertion_change is_simple_type
disallowed = refl

-- ---- an embedded document of another dialect

abbrev embedded : Named
embedded = (
  codes "definitions",
  obj ((
    codes "a",
    obj ((codes "$schema", names_04) ∷ (codes "definitions", obj ((codes "b", is_null) ∷ []))
        ∷ (codes "id", text (codes "https://o.example/a")) ∷ []),
  ) ∷ []),
) ∷ []

embedded_moves : Moves Draft2019 embedded (codes "definitions" ∷ codes "a" ∷ codes "definitions" ∷ codes "b" ∷ [])
    (codes "definitions" ∷ codes "a" ∷ codes "$defs" ∷ codes "b" ∷ [])
unfolding core_change applicator_change assertion_change version_named
embedded_moves = refl
