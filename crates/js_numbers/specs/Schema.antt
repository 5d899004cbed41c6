-- A schema document in which numbers are integers where that says the same. Its integers are written in digits first,
-- as in an instance.
use Rattle.std.specs.Prelude.{ℕ, Bool, false, not, ◌&&◌, List, [], ◌∷◌, Option, Some, None}
use Rattle.std.specs.Prelude.{option_and_then, is_some, codes, if◌then◌else◌}
use Rattle.json.specs.Find.{get}
use Rattle.json.specs.Json.{Json, string, array, object, Items, no_items, item, Members, no_members}
use Rattle.json.specs.Json.{member, document}
use Rattle.json.specs.Print.{print}
use Rattle.json.specs.Tree.{json_tokens}
use Rattle.js_doc.specs.Value.{Text}
use Rattle.js_upgrade.specs.Dialect.{dialect_named, is_before}
use Rattle.js_upgrade.specs.Keyword.{change_in}
use Rattle.js_upgrade.specs.Schema.{is_uri}
use Rattle.js_upgrade.specs.Upgrade.{holding_by_change, identifier}
use Rattle.js_upgrade.specs.declared.dialect.Dialect.{Dialect}
use Rattle.js_upgrade.specs.declared.dialect.Dialect.TheVariants.{Draft2019}
use Rattle.js_upgrade.specs.declared.holding.SchemaHolding.{SchemaHolding}
use Rattle.js_upgrade.specs.declared.holding.SchemaHolding.TheVariants.{One, Listed, Named, OneOrListed}
use Rattle.js_numbers.specs.Change.{members_made, change}
use Rattle.js_numbers.specs.Instance.{exact_instance}
use Rattle.js_numbers.specs.Names.{has_names_once}

-- ---- the dialect of a schema, as the upgrade has it

abbrev pub dialect_of_uri : Json → Option Dialect
dialect_of_uri (string uri) = dialect_named uri
dialect_of_uri _ = None

abbrev pub is_uri_text : Option Json → Bool
is_uri_text (Some (string uri)) = is_uri uri
is_uri_text _ = false

-- whether a reference hides its siblings
abbrev pub reference_hides : Dialect → Json → Bool
reference_hides d schema = is_before d Draft2019 && is_some (get (codes "$ref") schema)

abbrev pub has_identifier : Dialect → Json → Bool
has_identifier d schema = is_uri_text (get (identifier d) schema) && not (reference_hides d schema)

abbrev pub dialect_beside : Dialect → Json → Option Dialect → Dialect
dialect_beside d schema None = d
dialect_beside d schema (Some e) = if has_identifier e schema then e else d

-- what the schema's `$schema` names
abbrev pub declared_dialect : Json → Option Dialect
declared_dialect schema = option_and_then dialect_of_uri (get (codes "$schema") schema)

-- below the root `$schema` counts beside an identifier of the dialect that it names
abbrev pub dialect_within : Dialect → Json → Dialect
dialect_within d schema = dialect_beside d schema (declared_dialect schema)

-- ---- the schemas in a value that holds some

-- the members, with some before them
abbrev pub with_members : List (Text × Json) → Members → Members
with_members [] ms = ms
with_members (m ∷ front) ms = member m.0 m.1 (with_members front ms)

abbrev mutual
  pub rewritten : SchemaHolding → Dialect → Json → Json
  rewritten One d (object ms) = object (keywords (dialect_within d (object ms)) (object ms) ms)
  rewritten OneOrListed d (object ms) = object (keywords (dialect_within d (object ms)) (object ms) ms)
  rewritten Named d (object ms) = object (each_named d ms)
  rewritten Listed d (array js) = array (each_listed d js)
  rewritten OneOrListed d (array js) = array (each_listed d js)
  rewritten _ d j = j

  pub each_listed : Dialect → Items → Items
  each_listed d no_items = no_items
  each_listed d (item j js) = item (rewritten One d j) (each_listed d js)

  pub each_named : Dialect → Members → Members
  each_named d no_members = no_members
  each_named d (member name j ms) = member name (rewritten One d j) (each_named d ms)

  -- the keywords of the schema
  pub keywords : Dialect → Json → Members → Members
  keywords d schema no_members = no_members
  keywords d schema (member name j ms) =
      with_members (members_made (change d schema name j) name j (rewritten (holding_by_change (change_in d name)) d j))
      (keywords d schema ms)

-- ---- a document

-- what the root's `$schema` names, or what is assumed
abbrev pub known_or : Dialect → Option Dialect → Dialect
known_or assumed None = assumed
known_or assumed (Some d) = d

abbrev pub root_dialect : Dialect → Json → Dialect
root_dialect assumed root = known_or assumed (declared_dialect root)

abbrev pub exact_root : Dialect → Json → List ℕ
exact_root assumed root = print (json_tokens (rewritten One (root_dialect assumed root) root))

-- each member would be rewritten by itself, though the last one of a name counts
abbrev pub exact_or : Dialect → Json → Option (List ℕ)
exact_or assumed root = if has_names_once root then Some (exact_root assumed root) else None

-- none if it isn't JSON, or an object has a name twice
abbrev pub exact_schema : Dialect → List ℕ → Option (List ℕ)
exact_schema assumed text = option_and_then (exact_or assumed) (option_and_then document (exact_instance text))
