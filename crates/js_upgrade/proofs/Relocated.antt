-- What stays of a value when its references are rewritten: the order of its names, and what has no schemas.
use Rattle.std.proofs.Common.{◌≡◌, List, Bool, true, false, Option, Some, None, cond, Ordering, Less, Equal}
use Rattle.std.proofs.Common.{Greater, codes, option_map, refl, sym, ap, ◌∙◌}
use Rattle.std.specs.Ordering.{match_ordering}
use Rattle.url.specs.Parts.{Parts}
use Rattle.js_doc.specs.Members.{get, name_cmp, IsBelowFirst, NamesAscend, NamesAscendInItems, NamesAscendInMembers}
use Rattle.js_doc.specs.Parts.{member_list}
use Rattle.js_doc.specs.Value.{Value, null, truth, whole, text, list, object, Items as ItemList, no_items, item, items}
use Rattle.js_doc.specs.Value.{Members, no_members, member, members, Text, Named}
use Rattle.js_doc.proofs.FiniteMaps.{name_equal}
use Rattle.js_upgrade.specs.Reference.{argument_rewritten, as_it_is, items_relocated, members_relocated, recurses_at}
use Rattle.js_upgrade.specs.Reference.{relocated, rewritten}
use Rattle.js_upgrade.specs.Resource.{Resource, own_base, resource_named}
use Rattle.js_upgrade.specs.Schema.{change_of, hides}
use Rattle.js_upgrade.specs.Upgrade.{holding_in, holding_by_change, own_dialect}
use Rattle.js_upgrade.specs.Url.{uri_printed}
use Rattle.js_upgrade.specs.declared.dialect.Dialect.{Dialect}
use Rattle.js_upgrade.specs.declared.keyword.Change.{Change}
use Rattle.js_upgrade.specs.declared.holding.SchemaHolding.{SchemaHolding}
use Rattle.js_upgrade.specs.declared.holding.SchemaHolding.TheVariants.{One, Listed, Named as ByName, OneOrListed}
use Rattle.js_upgrade.specs.declared.holding.SchemaHolding.TheVariants.{Nothing}
use Rattle.js_upgrade.proofs.ByCases.{by_argument, is_no_reference}
use Rattle.js_upgrade.proofs.KeptArguments.{IsEverywhere, are_kept, is_nothing, keeps, split}

-- ---- names ascend

either_ascends : (b : Bool) (t : Text) (v : Value) → NamesAscend v → NamesAscend (cond b (text t) v)
either_ascends true t v s = tt
either_ascends false t v s = s

module _ (all : List Resource) where
  rewritten_ascends : (base : Parts) (v : Value) → NamesAscend v → NamesAscend (rewritten all base v)
  rewritten_ascends base (text t) s = tt
  rewritten_ascends base null s = tt
  rewritten_ascends base (truth b) s = tt
  rewritten_ascends base (whole z) s = tt
  rewritten_ascends base (list vs) s = s
  rewritten_ascends base (object ms) s = s

  argument_ascends : (change : Change) (base : Parts) (v w : Value) → NamesAscend v → NamesAscend w
      → NamesAscend (argument_rewritten all change base v w)
  argument_ascends change base =
      by_argument all base (λ c f. (v w : Value) → NamesAscend v → NamesAscend w → NamesAscend (f v w))
      (λ v w s t. rewritten_ascends base v s)
      (λ v w s t. either_ascends (recurses_at (resource_named all (uri_printed base))) (codes "#recursiveAnchor") v s)
      (λ c other v w s t. t) change

  below_relocated : (held : Text → SchemaHolding) (argument : Text → Value → Value → Value) (d : Dialect) (base : Parts)
      (k : Text) (ms : Members) → IsBelowFirst k ms
      → IsBelowFirst k (members (members_relocated all held argument d base ms))
  below_relocated held argument d base k no_members s = tt
  below_relocated held argument d base k (member name v ms) s = s

  mutual
    pub relocated_ascends : (h : SchemaHolding) (d : Dialect) (base : Parts) (v : Value) → NamesAscend v
        → NamesAscend (relocated all h d base v)
    relocated_ascends One d base (object ms) s =
        let own = own_dialect d (member_list ms) in
        let below = own_base own base (member_list ms) in
        members_relocated_ascend (holding_in own (member_list ms))
        (λ name. argument_rewritten all (change_of own (member_list ms) name) below) own below ms
        (λ k v w s t. argument_ascends (change_of own (member_list ms) k) below v w s t) s
    relocated_ascends OneOrListed d base (object ms) s =
        let own = own_dialect d (member_list ms) in
        let below = own_base own base (member_list ms) in
        members_relocated_ascend (holding_in own (member_list ms))
        (λ name. argument_rewritten all (change_of own (member_list ms) name) below) own below ms
        (λ k v w s t. argument_ascends (change_of own (member_list ms) k) below v w s t) s
    relocated_ascends ByName d base (object ms) s =
        members_relocated_ascend (λ _. One) as_it_is d base ms (λ k v w s t. t) s
    relocated_ascends Listed d base (object ms) s = s
    relocated_ascends Nothing d base (object ms) s = s
    relocated_ascends Listed d base (list vs) s = items_relocated_ascend d base vs s
    relocated_ascends OneOrListed d base (list vs) s = items_relocated_ascend d base vs s
    relocated_ascends One d base (list vs) s = s
    relocated_ascends ByName d base (list vs) s = s
    relocated_ascends Nothing d base (list vs) s = s
    relocated_ascends One d base null s = tt
    relocated_ascends Listed d base null s = tt
    relocated_ascends ByName d base null s = tt
    relocated_ascends OneOrListed d base null s = tt
    relocated_ascends Nothing d base null s = tt
    relocated_ascends One d base (truth b) s = tt
    relocated_ascends Listed d base (truth b) s = tt
    relocated_ascends ByName d base (truth b) s = tt
    relocated_ascends OneOrListed d base (truth b) s = tt
    relocated_ascends Nothing d base (truth b) s = tt
    relocated_ascends One d base (whole z) s = tt
    relocated_ascends Listed d base (whole z) s = tt
    relocated_ascends ByName d base (whole z) s = tt
    relocated_ascends OneOrListed d base (whole z) s = tt
    relocated_ascends Nothing d base (whole z) s = tt
    relocated_ascends One d base (text t) s = tt
    relocated_ascends Listed d base (text t) s = tt
    relocated_ascends ByName d base (text t) s = tt
    relocated_ascends OneOrListed d base (text t) s = tt
    relocated_ascends Nothing d base (text t) s = tt

    items_relocated_ascend : (d : Dialect) (base : Parts) (vs : ItemList) → NamesAscendInItems vs
        → NamesAscendInItems (items (items_relocated all d base vs))
    items_relocated_ascend d base no_items s = tt
    items_relocated_ascend d base (item v vs) s =
        (relocated_ascends One d base v s.0, items_relocated_ascend d base vs s.1)

    members_relocated_ascend : (held : Text → SchemaHolding) (argument : Text → Value → Value → Value) (d : Dialect)
        (base : Parts) (ms : Members)
        → ((k : Text) (v w : Value) → NamesAscend v → NamesAscend w → NamesAscend (argument k v w))
        → NamesAscendInMembers ms → NamesAscendInMembers (members (members_relocated all held argument d base ms))
    members_relocated_ascend held argument d base no_members kept s = tt
    members_relocated_ascend held argument d base (member k v ms) kept s = (
      below_relocated held argument d base k ms s.0,
      kept k v (relocated all (held k) d base v) s.1 (relocated_ascends (held k) d base v s.1),
      members_relocated_ascend held argument d base ms kept s.2,
    )

  -- ---- what has a name stays under it

  pub nothing_relocated : (d : Dialect) (base : Parts) (v : Value) → relocated all Nothing d base v ≡ v
  nothing_relocated d base null = refl
  nothing_relocated d base (truth b) = refl
  nothing_relocated d base (whole z) = refl
  nothing_relocated d base (text t) = refl
  nothing_relocated d base (list vs) = refl
  nothing_relocated d base (object ms) = refl

  got_by : (k name : Text) (f : Text → Value → Value) (v : Value) (new old : Option Value) (o : Ordering)
      → name_cmp k name ≡ o → new ≡ option_map (f k) old
      → match_ordering o new (Some (f name v)) new ≡ option_map (f k) (match_ordering o old (Some v) old)
  got_by k name f v new old Less is same = same
  got_by k name f v new old Equal is same = ap (λ n. Some (f n v)) (sym (name_equal k name is))
  got_by k name f v new old Greater is same = same

  got : (held : Text → SchemaHolding) (argument : Text → Value → Value → Value) (d : Dialect) (base : Parts) (k : Text)
      (ms : Members) → get k (members_relocated all held argument d base ms)
      ≡ option_map (λ v. argument k v (relocated all (held k) d base v)) (get k (member_list ms))
  got held argument d base k no_members = refl
  got held argument d base k (member name v ms) =
      got_by k name (λ n w. argument n w (relocated all (held n) d base w)) v
      (get k (members_relocated all held argument d base ms)) (get k (member_list ms)) (name_cmp k name) refl
      (got held argument d base k ms)

  -- an argument as it is relocated
  abbrev pub argument_of : Change → Dialect → Parts → Value → Value
  argument_of change d base v = argument_rewritten all change base v (relocated all (holding_by_change change) d base v)

  abbrev pub schema_members : Dialect → Parts → Members → Named
  schema_members d base ms =
      let own = own_dialect d (member_list ms) in
      let below = own_base own base (member_list ms) in
      members_relocated all (holding_in own (member_list ms))
      (λ name. argument_rewritten all (change_of own (member_list ms) name) below) own below ms

  pub schema_got_as : (d : Dialect) (base : Parts) (ms : Members) (k : Text)
      → get k (schema_members d base ms)
      ≡ option_map (argument_of (change_of (own_dialect d (member_list ms)) (member_list ms) k)
      (own_dialect d (member_list ms)) (own_base (own_dialect d (member_list ms)) base (member_list ms)))
      (get k (member_list ms))
  schema_got_as d base ms k =
      let own = own_dialect d (member_list ms) in
      let below = own_base own base (member_list ms) in
      got (holding_in own (member_list ms))
      (λ name. argument_rewritten all (change_of own (member_list ms) name) below) own below k ms

  -- ---- an argument that has no schemas and is no reference stays

  pub plain_argument : (change : Change) (d : Dialect) (base : Parts) (v : Value) → is_no_reference change ≡ true
      → argument_of change d base v ≡ relocated all (holding_by_change change) d base v
  plain_argument change d base v =
      by_argument all base (λ c f. is_no_reference c ≡ true
      → f v (relocated all (holding_by_change c) d base v) ≡ relocated all (holding_by_change c) d base v)
      (λ e. absurd (cc)) (λ e. absurd (cc)) (λ c other e. refl) change

  nothing_held : (h : SchemaHolding) (d : Dialect) (base : Parts) (v : Value) → is_nothing h ≡ true
      → relocated all h d base v ≡ v
  nothing_held Nothing d base v e = nothing_relocated d base v
  nothing_held One d base v e = absurd (cc)
  nothing_held Listed d base v e = absurd (cc)
  nothing_held ByName d base v e = absurd (cc)
  nothing_held OneOrListed d base v e = absurd (cc)

  pub kept : (change : Change) (d : Dialect) (base : Parts) (v : Value) → keeps change ≡ true
      → argument_of change d base v ≡ v
  kept change d base v e =
      let parts = split (is_no_reference change) (is_nothing (holding_by_change change)) e in
      plain_argument change d base v parts.0 ∙ nothing_held (holding_by_change change) d base v parts.1

  unmapped : (f : Value → Value) → ((v : Value) → f v ≡ v) → (found : Option Value) → option_map f found ≡ found
  unmapped f stays None = refl
  unmapped f stays (Some v) = ap Some (stays v)

  pub key_got : (k : Text) → IsEverywhere keeps k → (d : Dialect) (base : Parts) (ms : Members)
      → get k (schema_members d base ms) ≡ get k (member_list ms)
  key_got k everywhere d base ms =
      let own = own_dialect d (member_list ms) in
      let below = own_base own base (member_list ms) in
      schema_got_as d base ms k
      ∙ unmapped (argument_of (change_of own (member_list ms) k) own below)
      (λ v. kept (change_of own (member_list ms) k) own below v (everywhere own (hides own (member_list ms))))
      (get k (member_list ms))

  pub schema_got : (d : Dialect) (base : Parts) (ms : Members)
      → get (codes "$schema") (schema_members d base ms) ≡ get (codes "$schema") (member_list ms)
  schema_got d base ms = key_got (codes "$schema") are_kept.schema d base ms
