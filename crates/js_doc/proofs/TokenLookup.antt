-- The item and the member that a token names.
use Rattle.std.proofs.Common.{◌≡◌, ℕ, ◌+◌, ◌<◌, ◌^◌, suc, Bool, true, false, if◌then◌else◌, nat_eq, decimal}
use Rattle.std.proofs.Common.{List, [], ◌∷◌, length, get_or, Some, None, Ordering, Less, Equal, Greater}
use Rattle.std.proofs.Common.{nat_cmp, is_eq, zero, refl, sym, ap, ◌∙◌, arith}
use Rattle.std.specs.Cmp.Lexicographic.{pointwise, slice_cmp, texts_ties}
use Rattle.std.specs.Ordering.{match_ordering}
use Rattle.std.proofs.lemmas.Cmp.{nat_list_eq_equiv}
use Rattle.std.proofs.lemmas.Bool.{and_parts, eqb-true}
use Rattle.std.proofs.lemmas.Fmt.{decimal_injective}
use Rattle.js_doc.specs.Value.{Value, members}
use Rattle.js_doc.specs.Members.{get}
use Rattle.js_doc.specs.Seen.{value_of, items_seen}
use Rattle.js_doc.specs.Lookup.{is_text, item_named, member_named}
use Rattle.js_doc.specs.declared.doc.Doc.{Doc}

pub is_text-refl : (s : List ℕ) → is_text s s ≡ true
is_text-refl = nat_list_eq_equiv.refl

pub is_text-sound : (s t : List ℕ) → is_text s t ≡ true → s ≡ t
is_text-sound [] [] e = refl
is_text-sound [] (y ∷ ys) e = absurd (cc)
is_text-sound (x ∷ xs) [] e = absurd (cc)
is_text-sound (x ∷ xs) (y ∷ ys) e =
    let p = and_parts (nat_eq x y) (pointwise nat_eq xs ys) e in
    λ i. eqb-true x y p.0 i ∷ is_text-sound xs ys p.1 i

-- ---- members

by_order : {A : Type 0} (o : Ordering) (b : Bool) (x y : A) → b ≡ is_eq o
    → match_ordering o x y x ≡ (if b then y else x)
by_order Less b x y e = rw e
by_order Equal b x y e = rw e
by_order Greater b x y e = rw e

pub member_is : (token : List ℕ) (ms : List (List ℕ × Value)) → member_named token (members ms) ≡ get token ms
member_is token [] = refl
member_is token (m ∷ ms) =
    ap (λ x. if is_text token m.0 then Some m.1 else x) (member_is token ms) ∙ sym
    (by_order (slice_cmp nat_cmp token m.0) (is_text token m.0) (get token ms) (Some m.1) (texts_ties token m.0))

-- ---- items

here : (token : List ℕ) (d : Doc) (ds : List Doc) (k : ℕ) → token ≡ decimal k
    → item_named token k (items_seen (d ∷ ds)) ≡ Some (value_of d)
here token d ds k is = let e : is_text token (decimal k) ≡ true = ap (λ x. is_text x (decimal k)) is
    ∙ is_text-refl (decimal k) in rw e

passed : (token : List ℕ) (d : Doc) (ds : List Doc) (k : ℕ) (b : Bool) → is_text token (decimal k) ≡ b
    → (token ≡ decimal k → ⊥) → item_named token k (items_seen (d ∷ ds)) ≡ item_named token (k + 1) (items_seen ds)
passed token d ds k true e h = absurd (h (is_text-sound token (decimal k) e))
passed token d ds k false e h = rw e

pub named_at : (token : List ℕ) (ds : List Doc) (k n : ℕ) (x : Doc) → token ≡ decimal (k + n) → n < length ds
    → k + n < 2 ^ 64 → item_named token k (items_seen ds) ≡ Some (value_of (get_or ds n x))
named_at token [] k n x is h small = absurd (omega arith)
named_at token (d ∷ ds) k zero x is h small = let same : k + 0 ≡ k = omega arith in
    here token d ds k (is ∙ ap decimal same)
named_at token (d ∷ ds) k (suc n) x is h small =
    let same : k + suc n ≡ (k + 1) + n = omega arith in
    let other : token ≡ decimal k → ⊥ = λ e. let m : k + suc n
    ≡ k = decimal_injective (k + suc n) k (omega arith) (omega arith) (sym is ∙ e) in omega arith in
    passed token d ds k (is_text token (decimal k)) refl other
    ∙ named_at token ds (k + 1) n x (is ∙ ap decimal same) (omega arith) (omega arith)

pub named_none : (token : List ℕ) (ds : List Doc) (k : ℕ) → ((n : ℕ) → n < k + length ds → token ≡ decimal n → ⊥)
    → item_named token k (items_seen ds) ≡ None
named_none token [] k h = refl
named_none token (d ∷ ds) k h =
    passed token d ds k (is_text token (decimal k)) refl (h k (omega arith))
    ∙ named_none token ds (k + 1) (λ n l. h n (omega arith))
