-- References, rewritten to where their targets stand now (draft-03, 5.28; JSON Reference, 3; draft-06 Core, 8; draft-07
-- Core, 8.3; 2019-09 Core, 8.2.4; 2020-12 Core, 8.2.3). The URI of a reference stays; of its fragment, a pointer, each
-- token becomes what stands in its place. A fragment that is a name stays, unless `$anchor` can't have it.
use Rattle.std.specs.Prelude.{List, [], ◌∷◌, ◌++◌, Bool, false, Option, Some, None}
use Rattle.std.specs.Prelude.{bytes_eq, codes, unwrap_or, if◌then◌else◌}
use Rattle.std.specs.Cmp.Lexicographic.{pointwise}
use Rattle.std.specs.List.{before_first}
use Rattle.url.specs.Parts.{Parts}
use Rattle.percent_encoding.specs.Percent.{percent_decode}
use Rattle.js_doc.specs.Fragment.{fragment_text}
use Rattle.js_doc.specs.Parts.{member_list}
use Rattle.js_doc.specs.Pointer.{Tokens}
use Rattle.js_doc.specs.Value.{Value, text, list, object, Items, no_items, item, Members, no_members, member}
use Rattle.js_doc.specs.Value.{Text, Values, Named, items, members}
use Rattle.js_upgrade.specs.AnchorName.{is_settled, spelled}
use Rattle.js_upgrade.specs.CopyName.{redirected}
use Rattle.js_upgrade.specs.Dialect.{is_before}
use Rattle.js_upgrade.specs.Moved.{moved_tokens}
use Rattle.js_upgrade.specs.Resource.{Resource, own_base, recurses, resource_named}
use Rattle.js_upgrade.specs.Schema.{change_of, is_mark}
use Rattle.js_upgrade.specs.Upgrade.{holding_in, own_dialect}
use Rattle.js_upgrade.specs.Url.{fragment_pointer, uri_joined, uri_printed, uri_without_fragment}
use Rattle.js_upgrade.specs.declared.dialect.Dialect.{Dialect}
use Rattle.js_upgrade.specs.declared.dialect.Dialect.TheVariants.{Draft2020}
use Rattle.js_upgrade.specs.declared.keyword.Change.{Change}
use Rattle.js_upgrade.specs.declared.keyword.Change.TheVariants.{Refers, RecursiveReference}
use Rattle.js_upgrade.specs.declared.holding.SchemaHolding.{SchemaHolding}
use Rattle.js_upgrade.specs.declared.holding.SchemaHolding.TheVariants.{One, Listed, Named as ByName, OneOrListed}

-- ---- the text of a reference

abbrev pub are_same_tokens : Tokens → Tokens → Bool
are_same_tokens = pointwise bytes_eq

-- with this pointer as its fragment
abbrev pub with_pointer : Text → Tokens → Text
with_pointer t tokens = before_first is_mark t ++ (35 ∷ fragment_text tokens)

-- where the target has gone; a reference whose target hasn't moved stays as it is written
abbrev pub with_target : Text → Tokens → Option Tokens → Text
with_target t old None = t
with_target t old (Some new) = if are_same_tokens old new then t else with_pointer t new

-- what was copied has gone where its copy goes
abbrev pub moved_in : Resource → Tokens → Option Tokens
moved_in r tokens = moved_tokens One r.dialect r.root (redirected r.dialect r.copies tokens)

abbrev pub at_pointer : Text → Tokens → Option Resource → Text
at_pointer t tokens None = t
at_pointer t tokens (Some r) = with_target t tokens (moved_in r tokens)

-- a name as it is spelled in 2020-12; one that is settled stays as it is written
abbrev pub respelled : Text → Text → Text
respelled t name = if is_settled name then t else before_first is_mark t ++ (35 ∷ spelled name)

-- a root with names of an older draft
abbrev pub is_older : Dialect → Value → Bool
is_older d (object ms) = is_before (own_dialect d (member_list ms)) Draft2020
is_older d v = false

-- of a name that is spelled so
abbrev pub respelled_in : Text → Text → Option Resource → Text
respelled_in t named None = t
respelled_in t named (Some r) = if is_older r.dialect r.root then named else t

-- a reference with this fragment, and the pointer that the fragment is
abbrev pub in_resource : Text → Text → Option Tokens → Option Resource → Text
in_resource t fragment (Some tokens) r = at_pointer t tokens r
in_resource t fragment None r = respelled_in t (respelled t (percent_decode fragment)) r

-- ---- `$recursiveRef` of 2019-09 (Core, 8.2.4.2.1)

abbrev pub recurses_at : Option Resource → Bool
recurses_at None = false
recurses_at (Some r) = recurses r

-- ---- in schemas

-- a schema under a name that is no keyword's
abbrev pub as_it_is : Text → Value → Value → Value
as_it_is name v w = w

module _ (all : List Resource) where
  -- the reference, joined with the base of its place
  abbrev pub followed : Text → Option Parts → Text
  followed t None = t
  followed t (Some uri) =
      in_resource t (unwrap_or uri.fragment []) (fragment_pointer uri)
      (resource_named all (uri_printed (uri_without_fragment uri)))

  abbrev pub rewritten : Parts → Value → Value
  rewritten base (text t) = text (followed t (uri_joined base t))
  rewritten base v = v

  -- `#`: the root of its resource, or a dynamic anchor where the root has one
  abbrev pub recursion_rewritten : Parts → Value → Value
  recursion_rewritten base v =
      if recurses_at (resource_named all (uri_printed base)) then text (codes "#recursiveAnchor") else v

  -- the argument of a keyword, whose schemas have their references rewritten
  abbrev pub argument_rewritten : Change → Parts → Value → Value → Value
  argument_rewritten Refers base v w = rewritten base v
  argument_rewritten RecursiveReference base v w = recursion_rewritten base v
  argument_rewritten _ base v w = w

  -- ---- in a value that holds schemas

  abbrev mutual
    pub relocated : SchemaHolding → Dialect → Parts → Value → Value
    relocated One d base (object ms) =
        let own = own_dialect d (member_list ms) in
        let below = own_base own base (member_list ms) in
        object (members (members_relocated (holding_in own (member_list ms))
        (λ name. argument_rewritten (change_of own (member_list ms) name) below) own below ms))
    relocated OneOrListed d base (object ms) =
        let own = own_dialect d (member_list ms) in
        let below = own_base own base (member_list ms) in
        object (members (members_relocated (holding_in own (member_list ms))
        (λ name. argument_rewritten (change_of own (member_list ms) name) below) own below ms))
    relocated ByName d base (object ms) = object (members (members_relocated (λ name. One) as_it_is d base ms))
    relocated Listed d base (list vs) = list (items (items_relocated d base vs))
    relocated OneOrListed d base (list vs) = list (items (items_relocated d base vs))
    relocated _ d base v = v

    pub items_relocated : Dialect → Parts → Items → Values
    items_relocated d base no_items = []
    items_relocated d base (item v vs) = relocated One d base v ∷ items_relocated d base vs

    -- each under its name, as its keyword has it
    pub members_relocated : (Text → SchemaHolding) → (Text → Value → Value → Value) → Dialect → Parts → Members → Named
    members_relocated held argument d base no_members = []
    members_relocated held argument d base (member name v ms) =
        (name, argument name v (relocated (held name) d base v)) ∷ members_relocated held argument d base ms
