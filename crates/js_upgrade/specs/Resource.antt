-- The resources of documents: what a URI without a fragment names. A document is one under its URI; a schema with an
-- identifier of its dialect is one under what the identifier gives, joined with the base above it (draft-03, 5.27;
-- draft-04 Core, 7.2; draft-06 Core, 9.2; draft-07 Core, 8.2; 2019-09 Core, 8.2.2; 2020-12 Core, 8.2.1).
use Rattle.std.specs.Prelude.{List, [], ◌∷◌, ◌++◌, Bool, false, Option, Some, None, option_map}
use Rattle.std.specs.Prelude.{option_to_list}
use Rattle.std.specs.Prelude.{unwrap_or, if◌then◌else◌, find, bytes_eq, codes}
use Rattle.url.specs.Parts.{Parts}
use Rattle.js_doc.specs.Members.{get}
use Rattle.js_doc.specs.Parts.{member_list, members_of}
use Rattle.js_doc.specs.Value.{Value, text, list, object, Items, no_items, item, Members, no_members, member}
use Rattle.js_doc.specs.Value.{Text, Named, members}
use Rattle.js_upgrade.specs.Schema.{is_true}
use Rattle.js_upgrade.specs.Upgrade.{holding_in, identifier, identifies, own_dialect}
use Rattle.js_upgrade.specs.Url.{uri_joined, uri_printed, uri_without_fragment}
use Rattle.js_upgrade.specs.declared.dialect.Dialect.{Dialect}
use Rattle.js_upgrade.specs.declared.dialect.Dialect.TheVariants.{Draft2019}
use Rattle.js_upgrade.specs.declared.holding.SchemaHolding.{SchemaHolding}
use Rattle.js_upgrade.specs.declared.holding.SchemaHolding.TheVariants.{One, Listed, Named as ByName, OneOrListed}

-- ---- bases

abbrev pub joined_text : Parts → Option Value → Option Parts
joined_text base (Some (text t)) = option_map uri_without_fragment (uri_joined base t)
joined_text base _ = None

-- what the identifier of a schema of this dialect gives, if it has one
abbrev pub identity : Dialect → Parts → Named → Option Parts
identity own base siblings =
    if identifies own siblings then joined_text base (get (identifier own) siblings) else None

-- the base of what stands in the schema
abbrev pub own_base : Dialect → Parts → Named → Parts
own_base own base siblings = unwrap_or (identity own base siblings) base

-- ---- resources

-- its URI as printed, the dialect of what stands around it, its root, and the copies among the root's definitions
pub record Resource : Type 0 where
  pub uri : Text
  pub dialect : Dialect
  pub root : Value
  pub copies : Named

abbrev pub resource_with : Named → Dialect → Value → Parts → Resource
resource_with copies d root uri = record { uri = uri_printed uri; dialect = d; root = root; copies = copies }

abbrev pub resource_under : Dialect → Value → Parts → Resource
resource_under d root uri = resource_with [] d root uri

-- the one that a schema begins, if its identifier gives a base
abbrev pub begun_with : Named → Dialect → Value → Option Parts → List Resource
begun_with copies d root found = option_to_list (option_map (resource_with copies d root) found)

abbrev pub begun : Dialect → Value → Option Parts → List Resource
begun d root found = begun_with [] d root found

abbrev mutual
  -- those in a value that holds schemas, in order
  pub resources : SchemaHolding → Dialect → Parts → Value → List Resource
  resources One d base (object ms) =
      let own = own_dialect d (member_list ms) in
      begun d (object ms) (identity own base (member_list ms))
      ++ member_resources (holding_in own (member_list ms)) own (own_base own base (member_list ms)) ms
  resources OneOrListed d base (object ms) =
      let own = own_dialect d (member_list ms) in
      begun d (object ms) (identity own base (member_list ms))
      ++ member_resources (holding_in own (member_list ms)) own (own_base own base (member_list ms)) ms
  resources ByName d base (object ms) = member_resources (λ name. One) d base ms
  resources Listed d base (list vs) = item_resources d base vs
  resources OneOrListed d base (list vs) = item_resources d base vs
  resources _ d base v = []

  pub item_resources : Dialect → Parts → Items → List Resource
  item_resources d base no_items = []
  item_resources d base (item v vs) = resources One d base v ++ item_resources d base vs

  pub member_resources : (Text → SchemaHolding) → Dialect → Parts → Members → List Resource
  member_resources held d base no_members = []
  member_resources held d base (member name v ms) =
      resources (held name) d base v ++ member_resources held d base ms

-- the same of a schema, by its keywords
abbrev pub schema_resources : Dialect → Parts → Named → Value → List Resource
schema_resources d base siblings root =
    let own = own_dialect d siblings in
    begun d root (identity own base siblings)
    ++ member_resources (holding_in own siblings) own (own_base own base siblings) (members siblings)

-- those of a document, whose root has copies
abbrev pub own_resources : Named → Dialect → Parts → Named → Value → List Resource
own_resources copies d base siblings root =
    let own = own_dialect d siblings in
    begun_with copies d root (identity own base siblings)
    ++ member_resources (holding_in own siblings) own (own_base own base siblings) (members siblings)

abbrev pub root_resources : Named → Dialect → Parts → Value → List Resource
root_resources copies d base (object ms) = own_resources copies d base (member_list ms) (object ms)
root_resources copies d base v = []

abbrev pub document_resources : Named → Dialect → Parts → Value → List Resource
document_resources copies d uri root = resource_with copies d root uri ∷ root_resources copies d uri root

-- the first with the URI
abbrev pub resource_named : List Resource → Text → Option Resource
resource_named all uri = find (λ r. bytes_eq uri r.uri) all

-- ---- resources of 2019-09 whose root has `$recursiveAnchor` (Core, 8.2.4.2.2)

abbrev pub is_recursive : Dialect → Named → Bool
is_recursive Draft2019 siblings = is_true (get (codes "$recursiveAnchor") siblings)
is_recursive _ siblings = false

-- by its root, and the dialect around it
abbrev pub has_recursion : Dialect → Value → Bool
has_recursion d root = is_recursive (own_dialect d (members_of root)) (members_of root)

abbrev pub recurses : Resource → Bool
recurses r = has_recursion r.dialect r.root
