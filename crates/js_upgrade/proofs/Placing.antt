-- Schemas that are upgraded while their references are rewritten become what they are if the one follows the other.
use Rattle.std.proofs.Common.{◌≡◌, List, [], ◌∷◌, Some, None, refl, sym, ap, ap₂, ◌∙◌}
use Rattle.url.specs.Parts.{Parts}
use Rattle.js_doc.specs.Members.{IsAscending, IsBelowHead}
use Rattle.js_doc.specs.Parts.{member_list}
use Rattle.js_doc.specs.Value.{Value, null, truth, whole, text, list, object, Items as ItemList, no_items, item, items}
use Rattle.js_doc.specs.Value.{Members, no_members, member, members, Text, Named}
use Rattle.js_doc.proofs.PartLists.{member_list-members}
use Rattle.js_upgrade.specs.Reference.{argument_rewritten, as_it_is, items_relocated, members_relocated, relocated}
use Rattle.js_upgrade.specs.Reference.{recursion_rewritten, rewritten}
use Rattle.js_upgrade.specs.Resource.{Resource, own_base}
use Rattle.js_upgrade.specs.Schema.{change_of, gathered_members}
use Rattle.js_upgrade.specs.Upgrade.{holding_in, holding_by_change, items_upgraded, keywords_upgraded}
use Rattle.js_upgrade.specs.Upgrade.{members_upgraded, own_dialect, upgraded}
use Rattle.js_upgrade.specs.code.Placed.{ScopeSeen, argument_at, items_placed, keywords_placed}
use Rattle.js_upgrade.specs.code.Placed.{members_placed, place_below, placed}
use Rattle.js_upgrade.specs.declared.dialect.Dialect.{Dialect}
use Rattle.js_upgrade.specs.declared.keyword.Change.{Change}
use Rattle.js_upgrade.specs.declared.holding.SchemaHolding.{SchemaHolding}
use Rattle.js_upgrade.specs.declared.holding.SchemaHolding.TheVariants.{One, Listed, Named as ByName, OneOrListed}
use Rattle.js_upgrade.specs.declared.holding.SchemaHolding.TheVariants.{Nothing}
use Rattle.js_upgrade.proofs.ByCases.{by_argument}
use Rattle.js_upgrade.proofs.Again.{nothing_upgraded}
use Rattle.js_upgrade.proofs.KeptSiblings.{becomes_so, change_so, own_so}
use Rattle.js_upgrade.proofs.Relocated.{schema_members}

-- ---- where references stay

abbrev Argument : Type 0
Argument = Text → Value → Value → Value

mutual
  pub placed_nowhere : (h : SchemaHolding) (d : Dialect) (v : Value) → placed h d None v ≡ upgraded h d v
  placed_nowhere One d (object ms) =
      let own = own_dialect d (member_list ms) in
      ap (λ ns. object (members (keywords_upgraded own (member_list ms) ns)))
      (members_nowhere (holding_in own (member_list ms))
      (λ name. argument_at None (change_of own (member_list ms) name)) own (λ k v w. refl) ms)
  placed_nowhere OneOrListed d (object ms) =
      let own = own_dialect d (member_list ms) in
      ap (λ ns. object (members (keywords_upgraded own (member_list ms) ns)))
      (members_nowhere (holding_in own (member_list ms))
      (λ name. argument_at None (change_of own (member_list ms) name)) own (λ k v w. refl) ms)
  placed_nowhere ByName d (object ms) =
      ap (λ ns. object (members ns)) (members_nowhere (λ name. One) as_it_is d (λ k v w. refl) ms)
  placed_nowhere Listed d (object ms) = refl
  placed_nowhere Nothing d (object ms) = refl
  placed_nowhere Listed d (list vs) = ap (λ ws. list (items ws)) (items_nowhere d vs)
  placed_nowhere OneOrListed d (list vs) = ap (λ ws. list (items ws)) (items_nowhere d vs)
  placed_nowhere One d (list vs) = refl
  placed_nowhere ByName d (list vs) = refl
  placed_nowhere Nothing d (list vs) = refl
  placed_nowhere One d null = refl
  placed_nowhere One d (truth b) = refl
  placed_nowhere One d (whole z) = refl
  placed_nowhere One d (text t) = refl
  placed_nowhere Listed d null = refl
  placed_nowhere Listed d (truth b) = refl
  placed_nowhere Listed d (whole z) = refl
  placed_nowhere Listed d (text t) = refl
  placed_nowhere ByName d null = refl
  placed_nowhere ByName d (truth b) = refl
  placed_nowhere ByName d (whole z) = refl
  placed_nowhere ByName d (text t) = refl
  placed_nowhere OneOrListed d null = refl
  placed_nowhere OneOrListed d (truth b) = refl
  placed_nowhere OneOrListed d (whole z) = refl
  placed_nowhere OneOrListed d (text t) = refl
  placed_nowhere Nothing d null = refl
  placed_nowhere Nothing d (truth b) = refl
  placed_nowhere Nothing d (whole z) = refl
  placed_nowhere Nothing d (text t) = refl

  items_nowhere : (d : Dialect) (vs : ItemList) → items_placed d None vs ≡ items_upgraded d vs
  items_nowhere d no_items = refl
  items_nowhere d (item v vs) = ap₂ (λ w ws. w ∷ ws) (placed_nowhere One d v) (items_nowhere d vs)

  members_nowhere : (held : Text → SchemaHolding) (argument : Argument) (d : Dialect)
      → ((k : Text) (v w : Value) → argument k v w ≡ w) → (ms : Members)
      → members_placed held argument d None ms ≡ members_upgraded held d ms
  members_nowhere held argument d same no_members = refl
  members_nowhere held argument d same (member name v ms) =
      ap₂ (λ w ns. (name, w) ∷ ns)
      (same name v (placed (held name) d None v) ∙ placed_nowhere (held name) d v)
      (members_nowhere held argument d same ms)

-- ---- where they are rewritten

module _ (all : List Resource) where
  -- an argument that is upgraded as its keyword holds schemas
  abbrev IsPlaced : Dialect → Parts → Value → SchemaHolding → (Value → Value) → (Value → Value) → Type 0
  IsPlaced d base v h made argument =
      placed h d (Some (all, base)) v ≡ upgraded h d (relocated all h d base v)
      → made (placed h d (Some (all, base)) v) ≡ upgraded h d (argument (relocated all h d base v))

  argument_placed : (d : Dialect) (base : Parts) (v : Value) (change : Change)
      → IsPlaced d base v (holding_by_change change) (argument_rewritten all change base v)
      (argument_rewritten all change base v)
  argument_placed d base v change =
      by_argument all base (λ c f. IsPlaced d base v (holding_by_change c) (f v) (f v))
      (λ e. sym (nothing_upgraded d (rewritten all base v)))
      (λ e. sym (nothing_upgraded d (recursion_rewritten all base v))) (λ c other e. e) change

  -- a schema is of the same dialect then, and its keywords become the same
  abbrev IsMade : Dialect → Parts → Members → Named → Type 0
  IsMade d base ms made =
      let own = own_dialect d (member_list ms) in
      made ≡ members_upgraded (holding_in own (member_list ms)) own (members (schema_members all d base ms))

  schema_is : (d : Dialect) (base : Parts) (ms : Members) (made : Named) → IsMade d base ms made
      → object (members (keywords_upgraded (own_dialect d (member_list ms)) (member_list ms) made))
      ≡ upgraded One d (object (members (schema_members all d base ms)))
  schema_is d base ms made is =
      let old = member_list ms in
      let new = schema_members all d base ms in
      let own = own_dialect d old in
      let becoming = λ (f : Text → Value → Named) (held : Text → SchemaHolding).
      object (members (gathered_members f (members_upgraded held own (members new)) [])) in
      let in_dialect = λ (e : Dialect) (ns : Named).
      object (members (keywords_upgraded e ns (members_upgraded (holding_in e ns) e (members new)))) in
      ap (λ ns. object (members (keywords_upgraded own old ns))) is
      ∙ sym (ap (λ ns. in_dialect (own_dialect d ns) ns) (member_list-members new)
      ∙ ap (λ e. in_dialect e new) (own_so all d base ms d)
      ∙ (λ i. becoming (λ k v. becomes_so all d base ms own k v i)
      (λ k. holding_by_change (change_so all d base ms own k i))))

  mutual
    pub placed_among : (h : SchemaHolding) (d : Dialect) (base : Parts) (v : Value)
        → placed h d (Some (all, base)) v ≡ upgraded h d (relocated all h d base v)
    placed_among One d base (object ms) =
        let own = own_dialect d (member_list ms) in
        let below = own_base own base (member_list ms) in
        schema_is d base ms _ (members_among (holding_in own (member_list ms))
        (λ name. argument_rewritten all (change_of own (member_list ms) name) below) own below
        (λ k w. argument_placed own below w (change_of own (member_list ms) k)) ms)
    placed_among OneOrListed d base (object ms) =
        let own = own_dialect d (member_list ms) in
        let below = own_base own base (member_list ms) in
        schema_is d base ms _ (members_among (holding_in own (member_list ms))
        (λ name. argument_rewritten all (change_of own (member_list ms) name) below) own below
        (λ k w. argument_placed own below w (change_of own (member_list ms) k)) ms)
    placed_among ByName d base (object ms) =
        ap (λ ns. object (members ns)) (members_among (λ name. One) as_it_is d base (λ k w e. e) ms)
    placed_among Listed d base (object ms) = refl
    placed_among Nothing d base (object ms) = refl
    placed_among Listed d base (list vs) = ap (λ ws. list (items ws)) (items_among d base vs)
    placed_among OneOrListed d base (list vs) = ap (λ ws. list (items ws)) (items_among d base vs)
    placed_among One d base (list vs) = refl
    placed_among ByName d base (list vs) = refl
    placed_among Nothing d base (list vs) = refl
    placed_among One d base null = refl
    placed_among One d base (truth b) = refl
    placed_among One d base (whole z) = refl
    placed_among One d base (text t) = refl
    placed_among Listed d base null = refl
    placed_among Listed d base (truth b) = refl
    placed_among Listed d base (whole z) = refl
    placed_among Listed d base (text t) = refl
    placed_among ByName d base null = refl
    placed_among ByName d base (truth b) = refl
    placed_among ByName d base (whole z) = refl
    placed_among ByName d base (text t) = refl
    placed_among OneOrListed d base null = refl
    placed_among OneOrListed d base (truth b) = refl
    placed_among OneOrListed d base (whole z) = refl
    placed_among OneOrListed d base (text t) = refl
    placed_among Nothing d base null = refl
    placed_among Nothing d base (truth b) = refl
    placed_among Nothing d base (whole z) = refl
    placed_among Nothing d base (text t) = refl

    items_among : (d : Dialect) (base : Parts) (vs : ItemList)
        → items_placed d (Some (all, base)) vs ≡ items_upgraded d (items (items_relocated all d base vs))
    items_among d base no_items = refl
    items_among d base (item v vs) = ap₂ (λ w ws. w ∷ ws) (placed_among One d base v) (items_among d base vs)

    members_among : (held : Text → SchemaHolding) (argument : Argument) (d : Dialect) (base : Parts)
        → ((k : Text) (v : Value) → IsPlaced d base v (held k) (argument k v) (argument k v)) → (ms : Members)
        → members_placed held argument d (Some (all, base)) ms
        ≡ members_upgraded held d (members (members_relocated all held argument d base ms))
    members_among held argument d base placing no_members = refl
    members_among held argument d base placing (member name v ms) =
        ap₂ (λ w ns. (name, w) ∷ ns) (placing name v (placed_among (held name) d base v))
        (members_among held argument d base placing ms)

-- ---- loops

abbrev pub keywords_among : Dialect → ScopeSeen → Named → Members → Named
keywords_among own q siblings ms =
    members_placed (holding_in own siblings) (λ name. argument_at q (change_of own siblings name)) own q ms

pub schema_placed_is : (d own : Dialect) (p : ScopeSeen) (siblings out : Named) → own ≡ own_dialect d siblings
    → out ≡ keywords_placed own (place_below p own siblings) siblings
    → object (members out) ≡ placed One d p (object (members siblings))
schema_placed_is d own p siblings out same is =
    let made = λ (e : Dialect) (ns : Named).
    object (members (keywords_upgraded e ns (keywords_among e (place_below p e ns) ns (members siblings)))) in
    ap (λ ms. object (members ms)) is ∙ ap (λ e. made e siblings) same
    ∙ ap (λ ns. made (own_dialect d ns) ns) (sym (member_list-members siblings))

module _ (held : Text → SchemaHolding) (argument : Argument) (d : Dialect) (p : ScopeSeen) where
  below_names : (k : Text) (ms : Named) → IsBelowHead k ms
      → IsBelowHead k (members_placed held argument d p (members ms))
  below_names k [] s = tt
  below_names k (m ∷ ms) s = s

  pub names_ascend : (ms : Named) → IsAscending ms → IsAscending (members_placed held argument d p (members ms))
  names_ascend [] s = tt
  names_ascend (m ∷ ms) s = (below_names m.0 ms s.0, names_ascend ms s.1)
