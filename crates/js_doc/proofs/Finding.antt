-- The search for a number that isn't whole, a value further on.
use Rattle.std.proofs.Common.{◌≡◌, ℕ, ◌+◌, List, [], ◌∷◌, ◌++◌, length, Ok, Err, String, Global, Ordering, Greater}
use Rattle.std.proofs.Common.{string_bytes, string_cmp, nat_cmp, decimal, refl, sym, ap, ◌∙◌, subst, arith}
use Rattle.std.proofs.lemmas.Cmp.{nat_list_cmp_total}
use Rattle.std.specs.Cmp.Lexicographic.{slice_cmp}
use Rattle.std.specs.List.Sorted.{IsStrictlySortedBy}
use Rattle.std.specs.List.{AllByRecursion}
use Rattle.std.specs.Map.{keys_of}
use Rattle.std.specs.Ordering.{match_ordering, ordering_reverse}
use Rattle.std.specs.declared.cmp.Ordering.TheVariants.{Less, Equal}
use Rattle.serde_json.specs.View.{view, items_view, members_view}
use Rattle.serde_json.specs.declared.value.Value.{Value}
use Rattle.js_doc.specs.Value as doc
use Rattle.js_doc.specs.Value.{Items, no_items, item, Members, no_members, member, members}
use Rattle.js_doc.specs.Members.{put}
use Rattle.js_doc.specs.Seen.{value_of, items_seen}
use Rattle.js_doc.specs.code.Places.{IsAboveAll}
use Rattle.js_doc.specs.WholeNumbers.{Found, under, found_both, value_in, items_in, members_in}
use Rattle.js_doc.specs.Reading.{IsConversionFault, Lifts}
use Rattle.js_doc.specs.declared.doc.Doc.{Doc}
use Rattle.js_doc.specs.declared.reading.ReadFault.{ReadFault}
use Rattle.js_doc.specs.declared.reading.ReadFault.TheVariants.{Memory, NotJson, NotWhole}

abbrev pub Entry : Type 0
Entry = String Global × Value

abbrev pub ok_or : {A : Type 0} → A → Found A → A
ok_or d (Ok a) = a
ok_or d (Err p) = d

pub ok_inj : {A : Type 0} (a b : A) → ◌≡◌ {A = Found A} (Ok a) (Ok b) → a ≡ b
ok_inj a b e = ap (ok_or a) e

abbrev pub Inverted : {A B C : Type 0} → (A → B → C) → List ℕ → Found A → Found B → C → Type 0
Inverted {A} {B} f k a b c = (x : A) × (y : B) × (a ≡ Ok x) × (b ≡ Ok y) × (f x y ≡ c)

pub inverted : {A B C : Type 0} (f : A → B → C) (k : List ℕ) (a : Found A) (b : Found B) (c : C)
    → found_both f (under k a) b ≡ Ok c → Inverted f k a b c
inverted f k (Ok x) (Ok y) c e = (x, y, refl, refl, ok_inj _ _ e)
inverted f k (Ok x) (Err p) c e = absurd (cc)
inverted f k (Err p) b c e = absurd (cc)

pub both_is : {A B C : Type 0} (f : A → B → C) (k : List ℕ) (a : Found A) (b : Found B) (x : A) (y : B) → a ≡ Ok x
    → b ≡ Ok y → found_both f (under k a) b ≡ Ok (f x y)
both_is f k a b x y d e = rw (d, e)

-- ---- items

abbrev pub snoc : Items → doc.Value → Items
snoc no_items v = item v no_items
snoc (item w vs) v = item w (snoc vs v)

pub snoc_items_seen : (ds : List Doc) (d : Doc) → items_seen (ds ++ d ∷ []) ≡ snoc (items_seen ds) (value_of d)
snoc_items_seen [] d = refl
snoc_items_seen (e ∷ ds) d = ap (item (value_of e)) (snoc_items_seen ds d)

pub items_extend : (n : ℕ) (done : List Value) (v : Value) (vs : Items) (x : doc.Value)
    → items_in n (items_view done) ≡ Ok vs → value_in (view v) ≡ Ok x
    → items_in n (items_view (done ++ v ∷ [])) ≡ Ok (snoc vs x)
items_extend n [] v vs x e h = rw (h, ← ok_inj no_items vs e)
items_extend n (w ∷ done) v vs x e h =
    let i = inverted item (decimal n) (value_in (view w)) (items_in (n + 1) (items_view done)) vs e in
    both_is item (decimal n) _ _ i.0 (snoc i.1 x) i.2 (items_extend (n + 1) done v i.1 x i.3 h)
    ∙ ap (λ ws. Ok (snoc ws x)) i.4

pub items_stop : (n m : ℕ) (done : List Value) (v : Value) (more : List Value) (vs : Items) (p : List (List ℕ))
    → items_in n (items_view done) ≡ Ok vs → value_in (view v) ≡ Err p → m ≡ n + length done
    → items_in n (items_view (done ++ v ∷ more)) ≡ Err (decimal m ∷ p)
items_stop n m [] v more vs p e h is = let same : m ≡ n = omega (arith, is) in rw (h, same)
items_stop n m (w ∷ done) v more vs p e h is =
    let i = inverted item (decimal n) (value_in (view w)) (items_in (n + 1) (items_view done)) vs e in
    rw (i.2, items_stop (n + 1) m done v more i.1 p i.3 h (omega (arith, is)))

-- ---- members

below_middle : (first : Entry) (es : List Entry) (e : Entry) (more : List Entry)
    → AllByRecursion (λ y. string_cmp first.0 y ≡ Less) (keys_of (es ++ e ∷ more)) → string_cmp first.0 e.0 ≡ Less
below_middle first [] e more h = h.0
below_middle first (x ∷ es) e more h = below_middle first es e more h.1

abbrev put_data : List ℕ → doc.Value → Members → Members
put_data k v no_members = member k v no_members
put_data k v (member l w ms) =
    match_ordering (slice_cmp nat_cmp k l) (member k v (member l w ms)) (member l v ms) (member l w (put_data k v ms))

members-match : (o : Ordering) (a b c : doc.Named)
    → members (match_ordering o a b c) ≡ match_ordering o (members a) (members b) (members c)
members-match Less a b c = refl
members-match Equal a b c = refl
members-match Greater a b c = refl

members-put : (k : List ℕ) (v : doc.Value) (ms : doc.Named) → members (put k v ms) ≡ put_data k v (members ms)
members-put k v [] = refl
members-put k v (m ∷ ms) = members-match (slice_cmp nat_cmp k m.0) _ _ _ ∙ rw (members-put k v ms)

data_extend : (done : List Entry) (e : Entry) (more : List Entry) (ms : Members) (x : doc.Value)
    → members_in (members_view done) ≡ Ok ms → value_in (view e.1) ≡ Ok x
    → IsStrictlySortedBy string_cmp (keys_of (done ++ e ∷ more))
    → members_in (members_view (done ++ e ∷ [])) ≡ Ok (put_data (string_bytes e.0) x ms)
unfolding IsStrictlySortedBy
data_extend [] e more ms x is h s = rw (h, ← ok_inj no_members ms is)
data_extend (first ∷ done) e more ms x is h s =
    let i = inverted (member (string_bytes first.0)) (string_bytes first.0) (value_in (view first.1))
    (members_in (members_view done)) ms is in
    let above : slice_cmp nat_cmp (string_bytes e.0) (string_bytes first.0) ≡ Greater =
    nat_list_cmp_total.antisymm (string_bytes e.0) (string_bytes first.0)
    ∙ ap ordering_reverse (below_middle first done e more s.0) in
    let at_end : put_data (string_bytes e.0) x (member (string_bytes first.0) i.0 i.1)
    ≡ member (string_bytes first.0) i.0 (put_data (string_bytes e.0) x i.1) = rw above in
    both_is (member (string_bytes first.0)) (string_bytes first.0) _ _ i.0 (put_data (string_bytes e.0) x i.1) i.2
    (data_extend done e more i.1 x i.3 h s.1)
    ∙ ap Ok (sym at_end) ∙ ap (λ ns. Ok (put_data (string_bytes e.0) x ns)) i.4

pub members_extend : (done : List Entry) (e : Entry) (more : List Entry) (ms : doc.Named) (x : doc.Value)
    → members_in (members_view done) ≡ Ok (members ms) → value_in (view e.1) ≡ Ok x
    → IsStrictlySortedBy string_cmp (keys_of (done ++ e ∷ more))
    → members_in (members_view (done ++ e ∷ [])) ≡ Ok (members (put (string_bytes e.0) x ms))
members_extend done e more ms x is h s = data_extend done e more (members ms) x is h s
    ∙ ap Ok (sym (members-put (string_bytes e.0) x ms))

abbrev name_or : List ℕ → Members → List ℕ
name_or d no_members = d
name_or d (member k v ms) = k

abbrev rest_or : Members → Members → Members
rest_or d no_members = d
rest_or d (member k v ms) = ms

-- the names found ascend, so the next one is above them
pub above_found : (done : List Entry) (e : Entry) (more : List Entry) (ms : doc.Named)
    → members_in (members_view done) ≡ Ok (members ms) → IsStrictlySortedBy string_cmp (keys_of (done ++ e ∷ more))
    → IsAboveAll (string_bytes e.0) ms
unfolding IsStrictlySortedBy
above_found [] e more [] is s = tt
above_found [] e more (m ∷ ms) is s = let none = ok_inj no_members (members (m ∷ ms)) is in absurd (cc)
above_found (first ∷ done) e more [] is s =
    let i = inverted (member (string_bytes first.0)) (string_bytes first.0) (value_in (view first.1))
    (members_in (members_view done)) no_members is in
    let none = i.4 in absurd (cc)
above_found (first ∷ done) e more (m ∷ ms) is s =
    let i = inverted (member (string_bytes first.0)) (string_bytes first.0) (value_in (view first.1))
    (members_in (members_view done)) (members (m ∷ ms)) is in
    let name : string_bytes first.0 ≡ m.0 = ap (name_or []) i.4 in
    let rest : i.1 ≡ members ms = ap (rest_or no_members) i.4 in
    let above : slice_cmp nat_cmp (string_bytes e.0) (string_bytes first.0) ≡ Greater =
    nat_list_cmp_total.antisymm (string_bytes e.0) (string_bytes first.0)
    ∙ ap ordering_reverse (below_middle first done e more s.0) in (
      subst (λ n. slice_cmp nat_cmp (string_bytes e.0) n ≡ Greater) name above,
      above_found done e more ms
          (i.3 ∙ ap Ok rest) s.1,
    )

pub members_stop : (done : List Entry) (e : Entry) (more : List Entry) (ms : Members) (p : List (List ℕ))
    → members_in (members_view done) ≡ Ok ms → value_in (view e.1) ≡ Err p
    → members_in (members_view (done ++ e ∷ more)) ≡ Err (string_bytes e.0 ∷ p)
members_stop [] e more ms p is h = rw h
members_stop (first ∷ done) e more ms p is h =
    let i = inverted (member (string_bytes first.0)) (string_bytes first.0) (value_in (view first.1))
    (members_in (members_view done)) ms is in
    rw (i.2, members_stop done e more i.1 p i.3 h)

-- ---- a fault, one level up

pub lifted_stops : {A : Type 0} (found : Found A) (d : Found doc.Value) (token : List ℕ) (old new : ReadFault)
    → IsConversionFault d old → Lifts token old new
    → ((p : List (List ℕ)) → d ≡ Err p → found ≡ Err (token ∷ p)) → IsConversionFault found new
lifted_stops found d token old Memory s l up = tt
lifted_stops found d token old NotJson s l up = subst (IsConversionFault d) l s
lifted_stops found d token old (NotWhole q) s l up = up l.0 (subst (IsConversionFault d) l.1 s) ∙ ap Err (sym l.2)
