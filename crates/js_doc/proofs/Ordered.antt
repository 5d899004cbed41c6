-- The order of documents, a part further on.
use Rattle.std.proofs.Common.{◌≡◌, ℕ, ◌+◌, ◌<◌, ◌≤◌, List, [], ◌∷◌, length, drop, Ordering, Less}
use Rattle.std.proofs.Common.{Equal, Greater, nat_cmp, refl, sym, ap, ◌∙◌, arith}
use Rattle.std.proofs.lemmas.List.{length-drop}
use Rattle.std.specs.Cmp.{ranks}
use Rattle.std.specs.Cmp.Lexicographic.{slice_cmp}
use Rattle.std.specs.Ordering.{ordering_then, MatchOrdering}
use Rattle.js_doc.specs.Coding.{to_text, to_items, to_members}
use Rattle.js_doc.specs.Order.{tree_order}
use Rattle.js_doc.specs.Seen.{items_seen, members_seen}
use Rattle.js_doc.specs.declared.doc.Doc.{Doc}
use Rattle.js_doc.proofs.Alike.{Entry}

pub text_order : (s t : List ℕ) → slice_cmp nat_cmp s t ≡ tree_order (to_text s) (to_text t)
text_order [] [] = refl
text_order [] (y ∷ t) = refl
text_order (x ∷ s) [] = refl
text_order (x ∷ s) (y ∷ t) = ap (ordering_then (nat_cmp x y)) (text_order s t)

abbrev pub ItemsOrder : List Doc → List Doc → Ordering
ItemsOrder a b = tree_order (to_items (items_seen a)) (to_items (items_seen b))

abbrev pub EntriesOrder : List Entry → List Entry → Ordering
EntriesOrder a b = tree_order (to_members (members_seen a)) (to_members (members_seen b))

-- ---- where one list ends, the lengths decide

decided : (m n : ℕ) (r : Ordering) → MatchOrdering r (m < n) (m ≡ n) (n < m)
    → (m < n → r ≡ Less) × (m ≡ n → r ≡ Equal) × (n < m → r ≡ Greater)
decided m n Less h = (λ e. refl, λ e. absurd (omega (arith, h, e)), λ e. absurd (omega (arith, h, e)))
decided m n Equal h = (λ e. absurd (omega (arith, h, e)), λ e. refl, λ e. absurd (omega (arith, h, e)))
decided m n Greater h = (λ e. absurd (omega (arith, h, e)), λ e. absurd (omega (arith, h, e)), λ e. refl)

by_length : {A : Type 0} (all : List A → List A → Ordering) → all [] [] ≡ Equal
    → ((y : A) (b : List A) → all [] (y ∷ b) ≡ Less) → ((x : A) (a : List A) → all (x ∷ a) [] ≡ Greater)
    → (m n i : ℕ) (a b : List A) → length a + i ≡ m → length b + i ≡ n → (0 < length a → 0 < length b → ⊥)
    → nat_cmp m n ≡ all a b
by_length all both more fewer m n i [] [] p q h =
    (decided m n (nat_cmp m n) (ranks m n)).1 (omega (arith, p, q)) ∙ sym both
by_length all both more fewer m n i [] (y ∷ b) p q h =
    (decided m n (nat_cmp m n) (ranks m n)).0 (omega (arith, p, q)) ∙ sym (more y b)
by_length all both more fewer m n i (x ∷ a) [] p q h =
    (decided m n (nat_cmp m n) (ranks m n)).2 (omega (arith, p, q)) ∙ sym (fewer x a)
by_length all both more fewer m n i (x ∷ a) (y ∷ b) p q h = absurd (h (omega arith) (omega arith))

ended : {A : Type 0} (all : List A → List A → Ordering) → all [] [] ≡ Equal
    → ((y : A) (b : List A) → all [] (y ∷ b) ≡ Less) → ((x : A) (a : List A) → all (x ∷ a) [] ≡ Greater)
    → (a b : List A) (i : ℕ) → i ≤ length a → i ≤ length b → (i < length a → i < length b → ⊥)
    → nat_cmp (length a) (length b) ≡ all (drop i a) (drop i b)
ended all both more fewer a b i p q h =
    let m = length-drop i a in
    let n = length-drop i b in
    by_length all both more fewer (length a) (length b) i (drop i a) (drop i b) (omega (arith, p, m))
    (omega (arith, q, n)) (λ s t. h (omega (arith, p, m, s)) (omega (arith, q, n, t)))

pub items_ended : (a b : List Doc) (i : ℕ) → i ≤ length a → i ≤ length b → (i < length a → i < length b → ⊥)
    → nat_cmp (length a) (length b) ≡ ItemsOrder (drop i a) (drop i b)
items_ended = ended ItemsOrder refl (λ y b. refl) (λ x a. refl)

pub entries_ended : (a b : List Entry) (i : ℕ) → i ≤ length a → i ≤ length b → (i < length a → i < length b → ⊥)
    → nat_cmp (length a) (length b) ≡ EntriesOrder (drop i a) (drop i b)
entries_ended = ended EntriesOrder refl (λ y b. refl) (λ x a. refl)
