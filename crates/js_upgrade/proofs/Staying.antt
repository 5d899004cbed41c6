-- Schemas of 2020-12 stay as they are.
use Rattle.std.proofs.Common.{◌≡◌, [], ◌∷◌, Some, refl, ap, ap₂, ◌∙◌, option_map}
use Rattle.js_doc.specs.Value.{Value, null, truth, whole, text, list, object, Items, no_items, item, items}
use Rattle.js_doc.specs.Value.{Members, no_members, member, members, Text, Named}
use Rattle.js_doc.specs.Members.{IsAscending, IsBelowFirst, IsBelowHead, NamesAscend, NamesAscendInItems}
use Rattle.js_doc.specs.Members.{NamesAscendInMembers}
use Rattle.js_doc.specs.Parts.{item_list, member_list}
use Rattle.js_doc.proofs.PartLists.{items-item_list, members-member_list}
use Rattle.js_upgrade.specs.Current.{AreCurrent, IsCurrent, ItemsAreCurrent}
use Rattle.js_upgrade.specs.Laws.{CurrentStays}
use Rattle.js_upgrade.specs.Schema.{gathered_members, one, put_all}
use Rattle.js_upgrade.specs.Upgrade.{becomes, holding_in, items_upgraded, keywords_upgraded, members_upgraded}
use Rattle.js_upgrade.specs.Upgrade.{own_dialect, root_upgraded, upgraded}
use Rattle.js_upgrade.specs.declared.dialect.Dialect.TheVariants.{Draft2020}
use Rattle.js_upgrade.specs.declared.holding.SchemaHolding.{SchemaHolding}
use Rattle.js_upgrade.specs.declared.holding.SchemaHolding.TheVariants.{One, Listed, Named as ByName, OneOrListed}
use Rattle.js_upgrade.specs.declared.holding.SchemaHolding.TheVariants.{Nothing}
use Rattle.js_upgrade.proofs.InOrder.{gathered_one}
use Rattle.js_upgrade.proofs.PlainChanges.{keyword_stays}

below_head : (k : Text) (ms : Members) → IsBelowFirst k ms → IsBelowHead k (member_list ms)
below_head k no_members s = tt
below_head k (member name v ms) s = s

pub ascending : (ms : Members) → NamesAscendInMembers ms → IsAscending (member_list ms)
ascending no_members s = tt
ascending (member name v ms) s = (below_head name ms s.0, ascending ms s.2)

gathered_same : (f g : Text → Value → Named) → ((k : Text) (v : Value) → f k v ≡ g k v) → (ms among : Named)
    → gathered_members f ms among ≡ gathered_members g ms among
gathered_same f g same [] among = refl
gathered_same f g same (m ∷ ms) among =
    gathered_same f g same ms (put_all (f m.0 m.1) among)
    ∙ ap (λ ks. gathered_members g ms (put_all ks among)) (same m.0 m.1)

pub keywords_stay : (siblings ms : Named) → IsAscending ms → keywords_upgraded Draft2020 siblings ms ≡ ms
keywords_stay siblings ms s = gathered_same (becomes Draft2020 siblings) one (keyword_stays siblings) ms []
    ∙ gathered_one ms s

schema_stays : (ms : Members) → NamesAscendInMembers ms → own_dialect Draft2020 (member_list ms) ≡ Draft2020
    → members_upgraded (holding_in Draft2020 (member_list ms)) Draft2020 ms ≡ member_list ms
    → upgraded One Draft2020 (object ms) ≡ object ms
schema_stays ms s own same =
    let siblings = member_list ms in
    ap (λ e. object (members (keywords_upgraded e siblings (members_upgraded (holding_in e siblings) e ms)))) own
    ∙ ap (λ ns. object (members (keywords_upgraded Draft2020 siblings ns))) same
    ∙ ap (λ ns. object (members ns)) (keywords_stay siblings siblings (ascending ms s))
    ∙ ap object (members-member_list ms)

mutual
  pub stays : (h : SchemaHolding) (v : Value) → NamesAscend v → IsCurrent h v → upgraded h Draft2020 v ≡ v
  stays One (object ms) s c = schema_stays ms s c.0 (members_stay (holding_in Draft2020 (member_list ms)) ms s c.1)
  stays OneOrListed (object ms) s c =
      schema_stays ms s c.0 (members_stay (holding_in Draft2020 (member_list ms)) ms s c.1)
  stays ByName (object ms) s c =
      ap (λ ns. object (members ns)) (members_stay (λ name. One) ms s c) ∙ ap object (members-member_list ms)
  stays Listed (object ms) s c = refl
  stays Nothing (object ms) s c = refl
  stays Listed (list vs) s c = ap (λ ws. list (items ws)) (items_stay vs s c) ∙ ap list (items-item_list vs)
  stays OneOrListed (list vs) s c = ap (λ ws. list (items ws)) (items_stay vs s c) ∙ ap list (items-item_list vs)
  stays One (list vs) s c = refl
  stays ByName (list vs) s c = refl
  stays Nothing (list vs) s c = refl
  stays One null s c = refl
  stays Listed null s c = refl
  stays ByName null s c = refl
  stays OneOrListed null s c = refl
  stays Nothing null s c = refl
  stays One (truth b) s c = refl
  stays Listed (truth b) s c = refl
  stays ByName (truth b) s c = refl
  stays OneOrListed (truth b) s c = refl
  stays Nothing (truth b) s c = refl
  stays One (whole z) s c = refl
  stays Listed (whole z) s c = refl
  stays ByName (whole z) s c = refl
  stays OneOrListed (whole z) s c = refl
  stays Nothing (whole z) s c = refl
  stays One (text t) s c = refl
  stays Listed (text t) s c = refl
  stays ByName (text t) s c = refl
  stays OneOrListed (text t) s c = refl
  stays Nothing (text t) s c = refl

  items_stay : (vs : Items) → NamesAscendInItems vs → ItemsAreCurrent vs
      → items_upgraded Draft2020 vs ≡ item_list vs
  items_stay no_items s c = refl
  items_stay (item v vs) s c = ap₂ (λ w ws. w ∷ ws) (stays One v s.0 c.0) (items_stay vs s.1 c.1)

  members_stay : (held : Text → SchemaHolding) (ms : Members) → NamesAscendInMembers ms → AreCurrent held ms
      → members_upgraded held Draft2020 ms ≡ member_list ms
  members_stay held no_members s c = refl
  members_stay held (member name v ms) s c =
      ap₂ (λ w ns. (name, w) ∷ ns) (stays (held name) v s.1 c.0) (members_stay held ms s.2 c.1)

pub current_stays : CurrentStays
current_stays assumed root lawful is current =
    ap (option_map (λ d. root_upgraded d root)) is ∙ ap Some (stays One root lawful.0 current)
