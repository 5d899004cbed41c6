-- What stands at tokens in a value stands, upgraded, at the moved tokens in the upgraded value.
use Rattle.std.proofs.Common.{◌≡◌, ℕ, ◌+◌, [], ◌∷◌, ◌++◌, Bool, true, false, Option, Some, None, cond}
use Rattle.std.proofs.Common.{decimal, option_and_then, option_map, refl, sym, ap, ◌∙◌, subst, codes}
use Rattle.js_doc.specs.Lookup.{at, is_text, item_named, member_named, part_named}
use Rattle.js_doc.specs.Members.{get, IsAscending, NamesAscend, NamesAscendInItems, NamesAscendInMembers}
use Rattle.js_doc.specs.Parts.{member_list}
use Rattle.js_doc.specs.Pointer.{Tokens}
use Rattle.js_doc.specs.Value.{Value, null, truth, whole, text, list, object, Items as ItemList, no_items, item, items}
use Rattle.js_doc.specs.Value.{Members, no_members, member, members, Text, Named}
use Rattle.js_doc.proofs.FiniteMaps.{get_below, get_here, get_past}
use Rattle.js_doc.proofs.TokenLookup.{is_text-sound, member_is}
use Rattle.js_upgrade.specs.Laws.{KeywordsHaveOrigins, StandsWhereMoved}
use Rattle.js_upgrade.specs.Moved.{Reached, both, moved_tokens, reached, step, tokens_under}
use Rattle.js_upgrade.specs.Origin.{origin}
use Rattle.js_upgrade.specs.Schema.{change_of, is_some_list, put_all}
use Rattle.js_upgrade.specs.Upgrade.{becomes, holding_in, holding_by_change, items_upgraded, keywords_upgraded}
use Rattle.js_upgrade.specs.Upgrade.{members_upgraded, own_dialect, upgraded}
use Rattle.js_upgrade.specs.declared.dialect.Dialect.{Dialect}
use Rattle.js_upgrade.specs.declared.keyword.Change.TheVariants.{Items}
use Rattle.js_upgrade.specs.declared.holding.SchemaHolding.{SchemaHolding}
use Rattle.js_upgrade.specs.declared.holding.SchemaHolding.TheVariants.{One, Listed, Named as ByName, OneOrListed}
use Rattle.js_upgrade.specs.declared.holding.SchemaHolding.TheVariants.{Nothing}
use Rattle.js_upgrade.proofs.Again.{nothing_upgraded, upgraded_members_ascend}
use Rattle.js_upgrade.proofs.Each.{Each}
use Rattle.js_upgrade.proofs.EachOrigin.{each_from}
use Rattle.js_upgrade.proofs.Lookups.{gathered_from, gathered_get}
use Rattle.js_upgrade.proofs.Holders.{fits_all, holds_it, named_own, stays_itself}
use Rattle.js_upgrade.proofs.Origins.{is_named}
use Rattle.js_upgrade.proofs.PartsAt.{get_upgraded, item_upgraded, member_at}
use Rattle.js_upgrade.proofs.Standing.{stands_in}
use Rattle.js_upgrade.proofs.Staying.{ascending}

-- ---- each member is found under its name

each_weaker : (P Q : Text → Value → Type 0) (ms : Named) → ((k : Text) (v : Value) → P k v → Q k v) → Each P ms
    → Each Q ms
each_weaker P Q [] f e = tt
each_weaker P Q (m ∷ ms) f e = (f m.0 m.1 e.0, each_weaker P Q ms f e.1)

further : (m : Text × Value) (ms : Named) → get m.0 ms ≡ None → (k : Text) (v : Value) → get k ms ≡ Some v
    → get k (m ∷ ms) ≡ Some v
further m ms none k v found =
    get_past k m ms
    (λ same. let wrong : None ≡ Some v = sym none ∙ sym (ap (λ l. get l ms) same) ∙ found in absurd (cc)) ∙ found

each_got : (ms : Named) → IsAscending ms → Each (λ k v. get k ms ≡ Some v) ms
each_got [] s = tt
each_got (m ∷ ms) s = (
  get_here m.0 m.1 ms,
  each_weaker (λ k v. get k ms ≡ Some v) (λ k v. get k (m ∷ ms) ≡ Some v) ms
      (further m ms (get_below m.0 ms s.0 s.1)) (each_got ms s.1),
)

-- ---- items stay a list where they are one

listed_kept : (d : Dialect) (v : Value) → is_some_list (Some (upgraded OneOrListed d v)) ≡ is_some_list (Some v)
listed_kept d null = refl
listed_kept d (truth b) = refl
listed_kept d (whole z) = refl
listed_kept d (text t) = refl
listed_kept d (list vs) = refl
listed_kept d (object ms) = refl

abbrev listed_in : Named → Bool
listed_in siblings = is_some_list (get (codes "items") siblings)

named_items : (d : Dialect) (siblings : Named) (k : Text) → change_of d siblings k ≡ Items → k ≡ codes "items"
named_items d siblings k is =
    is_text-sound k (codes "items") (sym (ap (λ c. is_named c k) is) ∙ named_own d siblings k)

as_listed : (d : Dialect) (siblings : Named) (k : Text) (v : Value) → get k siblings ≡ Some v
    → change_of d siblings k ≡ Items → listed_in siblings ≡ is_some_list (Some v)
as_listed d siblings k v got is =
    ap (λ l. is_some_list (get l siblings)) (sym (named_items d siblings k is)) ∙ ap is_some_list got

upgraded_listed : (d : Dialect) (siblings : Named) (k : Text) (v : Value) → get k siblings ≡ Some v
    → change_of d siblings k ≡ Items
    → is_some_list (Some (upgraded (holding_in d siblings k) d v)) ≡ listed_in siblings
upgraded_listed d siblings k v got is =
    ap (λ c. is_some_list (Some (upgraded (holding_by_change c) d v))) is ∙ listed_kept d v
    ∙ sym (as_listed d siblings k v got is)

-- ---- the keywords of a schema

-- each that a keyword becomes comes from it
all_from_them : (d : Dialect) (siblings : Named) (ms : Members)
    → Each (λ k v. get k siblings ≡ Some v) (member_list ms)
    → Each (λ k v. Each (λ n w. origin d siblings n ≡ k) (becomes d siblings k v))
    (members_upgraded (holding_in d siblings) d ms)
all_from_them d siblings no_members e = tt
all_from_them d siblings (member k v ms) e = (
  each_from (origin d siblings) k siblings (listed_in siblings) (upgraded (holding_in d siblings k) d v) refl
      (change_of d siblings k) (fits_all d siblings k) (stays_itself d siblings k v e.0)
      (upgraded_listed d siblings k v e.0) (holds_it d siblings k),
  all_from_them d siblings ms e.1,
)

pub each_has_its_origin : KeywordsHaveOrigins
each_has_its_origin d ms name s =
    let siblings = member_list ms in
    gathered_from (origin d siblings) (becomes d siblings) name
    (members_upgraded (holding_in d siblings) d ms) [] (upgraded_members_ascend (holding_in d siblings) d ms s)
    (all_from_them d siblings ms (each_got siblings (ascending ms s))) refl

keyword_found : (d : Dialect) (ms : Members) (token : Text) (part : Value) (n : Text) (w : Value)
    → NamesAscendInMembers ms → get token (member_list ms) ≡ Some part
    → origin d (member_list ms) n ≡ token
    → get n (put_all (becomes d (member_list ms) token
    (upgraded (holding_in d (member_list ms) token) d part)) []) ≡ Some w
    → get n (keywords_upgraded d (member_list ms)
    (members_upgraded (holding_in d (member_list ms)) d ms)) ≡ Some w
keyword_found d ms token part n w s got own has =
    let siblings = member_list ms in
    let held = holding_in d siblings in
    let src = origin d siblings in
    let parts = members_upgraded held d ms in
    let u = upgraded (held token) d part in
    gathered_get src (becomes d siblings) n parts u w (upgraded_members_ascend held d ms s)
    (all_from_them d siblings ms (each_got siblings (ascending ms s)))
    (ap (λ k. get k parts) own ∙ get_upgraded held d token ms ∙ ap (option_map (upgraded (held token) d)) got)
    (ap (λ k. get n (put_all (becomes d siblings k u) [])) own ∙ has)

-- ---- one token

named_member : (token : Text) (ms : Members) (part : Value) → member_named token ms ≡ Some part
    → get token (member_list ms) ≡ Some part
named_member token ms part is = sym (member_at token ms) ∙ is

schema_at : (d : Dialect) (ms : Members) (token : Text) (part : Value) (rest ts inner : Tokens) (x : Value)
    → NamesAscendInMembers ms → NamesAscend part → member_named token ms ≡ Some part
    → tokens_under (member_list ms) token part rest (change_of d (member_list ms) token) ≡ Some ts
    → moved_tokens (holding_in d (member_list ms) token) d part rest ≡ Some inner
    → at inner (upgraded (holding_in d (member_list ms) token) d part) ≡ Some x
    → at (ts ++ inner) (object (members (keywords_upgraded d (member_list ms)
    (members_upgraded (holding_in d (member_list ms)) d ms)))) ≡ Some x
schema_at d ms token part rest ts inner x s p is e mv below =
    let siblings = member_list ms in
    let got = named_member token ms part is in
    stands_in (origin d siblings) siblings token d part rest ts inner
    (keywords_upgraded d siblings (members_upgraded (holding_in d siblings) d ms)) x p (change_of d siblings token)
    (fits_all d siblings token) (stays_itself d siblings token part got)
    (as_listed d siblings token part got) (holds_it d siblings token) e mv below
    (λ n w own has. keyword_found d ms token part n w s got own has)

abbrev pub tokens_of : Option Tokens → Tokens
tokens_of None = []
tokens_of (Some tokens) = tokens

named_at : (d : Dialect) (ms : Members) (token : Text) (part : Value) (ts inner : Tokens) (x : Value)
    → member_named token ms ≡ Some part → Some (token ∷ []) ≡ Some ts → at inner (upgraded One d part) ≡ Some x
    → at (ts ++ inner) (object (members (members_upgraded (λ _. One) d ms))) ≡ Some x
named_at d ms token part ts inner x is e below =
    subst (λ t. at (t ++ inner) (object (members (members_upgraded (λ _. One) d ms))) ≡ Some x) (ap tokens_of e)
    (ap (option_and_then (at inner)) (member_is token (members_upgraded (λ _. One) d ms)
    ∙ get_upgraded (λ _. One) d token ms ∙ ap (option_map (upgraded One d)) (named_member token ms part is)) ∙ below)

item_at : (d : Dialect) (vs : ItemList) (token : Text) (part : Value) (ts inner : Tokens) (x : Value)
    → item_named token 0 vs ≡ Some part → Some (token ∷ []) ≡ Some ts → at inner (upgraded One d part) ≡ Some x
    → at (ts ++ inner) (list (items (items_upgraded d vs))) ≡ Some x
item_at d vs token part ts inner x is e below =
    subst (λ t. at (t ++ inner) (list (items (items_upgraded d vs))) ≡ Some x) (ap tokens_of e)
    (ap (option_and_then (at inner)) (item_upgraded d token 0 vs ∙ ap (option_map (upgraded One d)) is) ∙ below)

same_at : (d : Dialect) (v : Value) (token : Text) (part : Value) (ts inner : Tokens) (x : Value)
    → part_named token v ≡ Some part → Some (token ∷ []) ≡ Some ts → at inner (upgraded Nothing d part) ≡ Some x
    → at (ts ++ inner) v ≡ Some x
same_at d v token part ts inner x is e below =
    subst (λ t. at (t ++ inner) v ≡ Some x) (ap tokens_of e)
    (ap (option_and_then (at inner)) is ∙ sym (ap (at inner) (nothing_upgraded d part)) ∙ below)

step_at : (h : SchemaHolding) (d : Dialect) (v : Value) (token : Text) (part : Value) (rest ts inner : Tokens)
    (x : Value)
    → NamesAscend v → NamesAscend part → part_named token v ≡ Some part
    → (step h d v token part rest).into ≡ Some ts
    → moved_tokens (step h d v token part rest).holding (step h d v token part rest).dialect part rest ≡ Some inner
    → at inner (upgraded (step h d v token part rest).holding (step h d v token part rest).dialect part) ≡ Some x
    → at (ts ++ inner) (upgraded h d v) ≡ Some x
step_at One d (object ms) token part rest ts inner x s p is e mv below =
    schema_at (own_dialect d (member_list ms)) ms token part rest ts inner x s p is e mv below
step_at OneOrListed d (object ms) token part rest ts inner x s p is e mv below =
    schema_at (own_dialect d (member_list ms)) ms token part rest ts inner x s p is e mv below
step_at ByName d (object ms) token part rest ts inner x s p is e mv below =
    named_at d ms token part ts inner x is e below
step_at Listed d (object ms) token part rest ts inner x s p is e mv below =
    same_at d (object ms) token part ts inner x is e below
step_at Nothing d (object ms) token part rest ts inner x s p is e mv below =
    same_at d (object ms) token part ts inner x is e below
step_at Listed d (list vs) token part rest ts inner x s p is e mv below =
    item_at d vs token part ts inner x is e below
step_at OneOrListed d (list vs) token part rest ts inner x s p is e mv below =
    item_at d vs token part ts inner x is e below
step_at One d (list vs) token part rest ts inner x s p is e mv below =
    same_at d (list vs) token part ts inner x is e below
step_at ByName d (list vs) token part rest ts inner x s p is e mv below =
    same_at d (list vs) token part ts inner x is e below
step_at Nothing d (list vs) token part rest ts inner x s p is e mv below =
    same_at d (list vs) token part ts inner x is e below
step_at h d null token part rest ts inner x s p is e mv below = absurd (cc)
step_at h d (truth b) token part rest ts inner x s p is e mv below = absurd (cc)
step_at h d (whole z) token part rest ts inner x s p is e mv below = absurd (cc)
step_at h d (text t) token part rest ts inner x s p is e mv below = absurd (cc)

-- ---- all tokens

abbrev value_or : Value → Option Value → Value
value_or v None = v
value_or v (Some w) = w

ascends_by : (b : Bool) (v part : Value) (later : Option Value) → NamesAscend v
    → (later ≡ Some part → NamesAscend part) → cond b (Some v) later ≡ Some part → NamesAscend part
ascends_by true v part later s more is = subst NamesAscend (ap (value_or v) is) s
ascends_by false v part later s more is = more is

item_ascends : (token : Text) (n : ℕ) (vs : ItemList) (part : Value) → NamesAscendInItems vs
    → item_named token n vs ≡ Some part → NamesAscend part
item_ascends token n no_items part s is = absurd (cc)
item_ascends token n (item v vs) part s is =
    ascends_by (is_text token (decimal n)) v part (item_named token (n + 1) vs) s.0
    (item_ascends token (n + 1) vs part s.1) is

member_ascends : (token : Text) (ms : Members) (part : Value) → NamesAscendInMembers ms
    → member_named token ms ≡ Some part → NamesAscend part
member_ascends token no_members part s is = absurd (cc)
member_ascends token (member k v ms) part s is =
    ascends_by (is_text token k) v part (member_named token ms) s.1 (member_ascends token ms part s.2) is

part_ascends : (token : Text) (v part : Value) → NamesAscend v → part_named token v ≡ Some part → NamesAscend part
part_ascends token (list vs) part s is = item_ascends token 0 vs part s is
part_ascends token (object ms) part s is = member_ascends token ms part s is
part_ascends token null part s is = absurd (cc)
part_ascends token (truth b) part s is = absurd (cc)
part_ascends token (whole z) part s is = absurd (cc)
part_ascends token (text t) part s is = absurd (cc)

pub both_are : (into found : Option Tokens) (new : Tokens) → both into found ≡ Some new
    → (ts : Tokens) × (inner : Tokens) × (into ≡ Some ts) × (found ≡ Some inner) × (ts ++ inner ≡ new)
both_are None found new e = absurd (cc)
both_are (Some ts) None new e = absurd (cc)
both_are (Some ts) (Some inner) new e = (ts, inner, refl, refl, ap tokens_of e)

abbrev reached_or : Reached → Option Reached → Reached
reached_or r None = r
reached_or r (Some q) = q

abbrev stood : Reached → Value
stood r = upgraded r.holding r.dialect r.value

stands_by : (token : Text) (rest : Tokens) (h : SchemaHolding) (d : Dialect) (v : Value) (new : Tokens) (r : Reached)
    → NamesAscend v
    → ((k : SchemaHolding) (e : Dialect) (w : Value) (inner : Tokens) → NamesAscend w → reached k e w rest ≡ Some r
    → moved_tokens k e w rest ≡ Some inner → at inner (upgraded k e w) ≡ Some (stood r))
    → (found : Option Value) → part_named token v ≡ found
    → option_and_then
    (λ part. reached (step h d v token part rest).holding (step h d v token part rest).dialect part rest) found
    ≡ Some r
    → option_and_then
    (λ part. both (step h d v token part rest).into
    (moved_tokens (step h d v token part rest).holding (step h d v token part rest).dialect part rest)) found ≡ Some new
    → at new (upgraded h d v) ≡ Some (stood r)
stands_by token rest h d v new r s more None is there mv = absurd (cc)
stands_by token rest h d v new r s more (Some part) is there mv =
    let st = step h d v token part rest in
    let b = both_are st.into (moved_tokens st.holding st.dialect part rest) new mv in
    let p = part_ascends token v part s is in
    subst (λ t. at t (upgraded h d v) ≡ Some (stood r)) b.4
    (step_at h d v token part rest b.0 b.1 (stood r) s p is b.2 b.3
    (more st.holding st.dialect part b.1 p there b.3))

stands : (tokens : Tokens) (h : SchemaHolding) (d : Dialect) (v : Value) (new : Tokens) (r : Reached) → NamesAscend v
    → reached h d v tokens ≡ Some r → moved_tokens h d v tokens ≡ Some new → at new (upgraded h d v) ≡ Some (stood r)
stands [] h d v new r s there mv =
    subst (λ t. at t (upgraded h d v) ≡ Some (stood r)) (ap tokens_of mv)
    (ap (λ o. Some (stood (reached_or r o))) there)
stands (token ∷ rest) h d v new r s there mv =
    stands_by token rest h d v new r s (λ k e w inner p t m. stands rest k e w inner r p t m) (part_named token v) refl
    there mv

pub stands_where_moved : StandsWhereMoved
stands_where_moved h d v tokens new r s there mv = stands tokens h d v new r s there mv
