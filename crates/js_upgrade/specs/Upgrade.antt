-- A document of an older draft as one of 2020-12: in each schema each keyword becomes what `Schema` says, when the
-- schemas that it holds have been upgraded.
use Rattle.std.specs.Prelude.{[], ◌∷◌, Bool, not, ◌&&◌, Option, Some, None, codes}
use Rattle.std.specs.Prelude.{option_and_then, option_map, if◌then◌else◌}
use Rattle.js_doc.specs.Value.{Value, text, list, object, Items, no_items, item, Members, no_members, member}
use Rattle.js_doc.specs.Value.{Text, Values, Named, items, members}
use Rattle.js_doc.specs.Members.{get, put}
use Rattle.js_doc.specs.Parts.{member_list}
use Rattle.js_upgrade.specs.Dialect.{dialect_named, is_before}
use Rattle.js_upgrade.specs.Schema.{change_of, gathered_members, hides, is_identifier, upgraded_by}
use Rattle.js_upgrade.specs.declared.dialect.Dialect.{Dialect}
use Rattle.js_upgrade.specs.declared.dialect.Dialect.TheVariants.{Draft06, Draft2020}
use Rattle.js_upgrade.specs.declared.keyword.Change.{Change}
use Rattle.js_upgrade.specs.declared.keyword.Change.TheVariants.{HoldsOne, HoldsList, HoldsNamed, Definitions}
use Rattle.js_upgrade.specs.declared.keyword.Change.TheVariants.{Items as ItemsChange, AdditionalItems, Dependencies}
use Rattle.js_upgrade.specs.declared.keyword.Change.TheVariants.{Types, Disallowed, Extended, Properties, Contains}
use Rattle.js_upgrade.specs.declared.holding.SchemaHolding.{SchemaHolding}
use Rattle.js_upgrade.specs.declared.holding.SchemaHolding.TheVariants.{One, Listed, Named as ByName, OneOrListed}
use Rattle.js_upgrade.specs.declared.holding.SchemaHolding.TheVariants.{Nothing}

-- ---- how the argument of a keyword holds schemas

abbrev pub holding_by_change : Change → SchemaHolding
holding_by_change HoldsOne = One
holding_by_change AdditionalItems = One
holding_by_change Contains = One
holding_by_change HoldsList = Listed
holding_by_change HoldsNamed = ByName
holding_by_change Definitions = ByName
holding_by_change Dependencies = ByName
holding_by_change Properties = ByName
holding_by_change ItemsChange = OneOrListed
holding_by_change Types = OneOrListed
holding_by_change Disallowed = OneOrListed
holding_by_change Extended = OneOrListed
holding_by_change _ = Nothing

-- ---- the dialect of a schema

abbrev pub dialect_in : Value → Option Dialect
dialect_in (text uri) = dialect_named uri
dialect_in _ = None

-- what the schema's `$schema` names
abbrev pub declared : Named → Option Dialect
declared siblings = option_and_then dialect_in (get (codes "$schema") siblings)

abbrev pub identifier : Dialect → Text
identifier d = if is_before d Draft06 then codes "id" else codes "$id"

abbrev pub identifies : Dialect → Named → Bool
identifies d siblings = is_identifier (get (identifier d) siblings) && not (hides d siblings)

abbrev pub dialect_or : Dialect → Named → Option Dialect → Dialect
dialect_or d siblings None = d
dialect_or d siblings (Some e) = if identifies e siblings then e else d

-- below the root `$schema` counts beside an identifier of the dialect that it names
abbrev pub own_dialect : Dialect → Named → Dialect
own_dialect d siblings = dialect_or d siblings (declared siblings)

-- ---- the schemas in a value that holds some

-- what a keyword of the schema becomes
abbrev pub becomes : Dialect → Named → Text → Value → Named
becomes d siblings name v = upgraded_by siblings name v (change_of d siblings name)

-- the keywords of a schema, when its schemas have been upgraded
abbrev pub keywords_upgraded : Dialect → Named → Named → Named
keywords_upgraded d siblings parts = gathered_members (becomes d siblings) parts []

abbrev pub holding_in : Dialect → Named → Text → SchemaHolding
holding_in d siblings name = holding_by_change (change_of d siblings name)

abbrev mutual
  pub upgraded : SchemaHolding → Dialect → Value → Value
  upgraded One d (object ms) =
      let own = own_dialect d (member_list ms) in
      object (members (keywords_upgraded own (member_list ms)
      (members_upgraded (holding_in own (member_list ms)) own ms)))
  upgraded OneOrListed d (object ms) =
      let own = own_dialect d (member_list ms) in
      object (members (keywords_upgraded own (member_list ms)
      (members_upgraded (holding_in own (member_list ms)) own ms)))
  upgraded ByName d (object ms) = object (members (members_upgraded (λ name. One) d ms))
  upgraded Listed d (list vs) = list (items (items_upgraded d vs))
  upgraded OneOrListed d (list vs) = list (items (items_upgraded d vs))
  upgraded _ d v = v

  pub items_upgraded : Dialect → Items → Values
  items_upgraded d no_items = []
  items_upgraded d (item v vs) = upgraded One d v ∷ items_upgraded d vs

  -- each under its name
  pub members_upgraded : (Text → SchemaHolding) → Dialect → Members → Named
  members_upgraded held d no_members = []
  members_upgraded held d (member name v ms) =
      (name, upgraded (held name) d v) ∷ members_upgraded held d ms

-- ---- a document

abbrev pub schema_uri : Value
schema_uri = text (codes "https://json-schema.org/draft/2020-12/schema")

-- what the root's `$schema` names, or what is assumed where there is none
abbrev pub dialect_found : Dialect → Option Value → Option Dialect
dialect_found assumed None = Some assumed
dialect_found assumed (Some v) = dialect_in v

abbrev pub document_dialect : Dialect → Value → Option Dialect
document_dialect assumed (object ms) = dialect_found assumed (get (codes "$schema") (member_list ms))
document_dialect assumed _ = Some assumed

abbrev pub with_schema_uri : Value → Value
with_schema_uri (object ms) = object (members (put (codes "$schema") schema_uri (member_list ms)))
with_schema_uri v = v

abbrev pub root_upgraded : Dialect → Value → Value
root_upgraded d root =
    if is_before d Draft2020 then with_schema_uri (upgraded One d root) else upgraded One d root

-- none where the dialect isn't known
abbrev pub document_upgraded : Dialect → Value → Option Value
document_upgraded assumed root = option_map (λ d. root_upgraded d root) (document_dialect assumed root)
