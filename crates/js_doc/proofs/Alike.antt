-- Equality of documents, a part further on.
use Rattle.std.proofs.Common.{◌≡◌, ℕ, ◌==◌, suc, ◌+◌, ◌<◌, Bool, false, ◌&&◌, List, [], ◌∷◌, length, get_or, drop}
use Rattle.std.proofs.Common.{bytes_eq, refl, sym, ap, ap₂, ◌∙◌}
use Rattle.std.proofs.lemmas.List.{drop_more}
use Rattle.std.proofs.lemmas.Bool.{and_right}
use Rattle.js_doc.specs.Coding.{to_text, to_items, to_members}
use Rattle.js_doc.specs.Equality.{same, same_tree}
use Rattle.js_doc.specs.Seen.{value_of, items_seen, members_seen}
use Rattle.js_doc.specs.declared.doc.Doc.{Doc}

pub same_text : (s t : List ℕ) → same_tree (to_text s) (to_text t) ≡ bytes_eq s t
same_text [] [] = refl
same_text [] (y ∷ t) = refl
same_text (x ∷ s) [] = refl
same_text (x ∷ s) (y ∷ t) = ap (λ b. (x == y) && b) (same_text s t)

-- lists that are compared part by part differ where their lengths do
apart : {A : Type 0} (part : A → A → Bool) (all : List A → List A → Bool)
    → ((y : A) (b : List A) → all [] (y ∷ b) ≡ false) → ((x : A) (a : List A) → all (x ∷ a) [] ≡ false)
    → ((x y : A) (a b : List A) → all (x ∷ a) (y ∷ b) ≡ part x y && all a b) → (a b : List A)
    → (length a ≡ length b → ⊥) → false ≡ all a b
apart part all more fewer both [] [] h = absurd (h refl)
apart part all more fewer both [] (y ∷ b) h = sym (more y b)
apart part all more fewer both (x ∷ a) [] h = sym (fewer x a)
apart part all more fewer both (x ∷ a) (y ∷ b) h =
    sym (both x y a b ∙ and_right (part x y) (all a b) (sym (apart part all more fewer both a b (λ e. h (ap suc e)))))

abbrev pub SameItems : List Doc → List Doc → Bool
SameItems a b = same_tree (to_items (items_seen a)) (to_items (items_seen b))

pub items_apart : (a b : List Doc) → (length a ≡ length b → ⊥) → false ≡ SameItems a b
items_apart = apart (λ x y. same (value_of x) (value_of y)) SameItems (λ y b. refl) (λ x a. refl) (λ x y a b. refl)

abbrev pub Entry : Type 0
Entry = List ℕ × Doc

abbrev pub SameEntries : List Entry → List Entry → Bool
SameEntries a b = same_tree (to_members (members_seen a)) (to_members (members_seen b))

pub entries_apart : (a b : List Entry) → (length a ≡ length b → ⊥) → false ≡ SameEntries a b
entries_apart =
    apart (λ x y. same_tree (to_text x.0) (to_text y.0)
    && same (value_of x.1) (value_of y.1)) SameEntries (λ y b. refl) (λ x a. refl) (λ x y a b. refl)

entries_head : (x y : Entry) (a b : List Entry) (r s : Bool) → bytes_eq x.0 y.0 ≡ r
    → same (value_of x.1) (value_of y.1) ≡ s
    → SameEntries (x ∷ a) (y ∷ b) ≡ (r && s) && SameEntries a b
entries_head x y a b r s e f =
    ap (λ c. c && SameEntries a b) (ap₂ (λ c d. c && d) (same_text x.0 y.0 ∙ e) f)

-- the entries at i decide, or those after them
pub entries_step : (a b : List Entry) (i : ℕ) (d e : Entry) (r s : Bool) → i < length a → i < length b
    → bytes_eq ((get_or a i d).0) ((get_or b i e).0) ≡ r
    → same (value_of (get_or a i d).1) (value_of (get_or b i e).1) ≡ s
    → SameEntries (drop i a) (drop i b) ≡ (r && s) && SameEntries (drop (i + 1) a) (drop (i + 1) b)
entries_step a b i d e r s p q f g =
    ap₂ SameEntries (drop_more a i d p) (drop_more b i e q)
    ∙ entries_head (get_or a i d) (get_or b i e) (drop (i + 1) a) (drop (i + 1) b) r s f g
