-- The texts of pointers, one after another.
use Rattle.std.proofs.Common.{◌≡◌, ℕ, ◌-◌, ◌≤◌, List, [], ◌∷◌, ◌++◌, take, drop, length, map, refl, sym}
use Rattle.std.proofs.Common.{ap, subst, append_assoc}
use Rattle.std.specs.Prelude.{IsUtf8}
use Rattle.js_doc.specs.Pointer.{Tokens, pointer_text}
use Rattle.jschema_c.specs.Locating.{ArePointers, AreUtf8}

-- those that were read and those that the rest has are all
abbrev pub AreAllWith : List ℕ → List ℕ → List Tokens → ℕ → List ℕ → Type 0
AreAllWith bytes ends done start rest =
    (ps : List Tokens) → ArePointers bytes start rest ps → ArePointers bytes 0 ends (done ++ ps)

pub one_more : (bytes ends : List ℕ) (done : List Tokens) (start end : ℕ) (rest : List ℕ) (p : Tokens)
    → AreAllWith bytes ends done start (end ∷ rest) → start ≤ end → end ≤ length bytes
    → pointer_text p ≡ take (end - start) (drop start bytes) → AreAllWith bytes ends (done ++ p ∷ []) end rest
one_more bytes ends done start end rest p h from to is ps more =
    subst (ArePointers bytes 0 ends) (sym (append_assoc done (p ∷ []) ps)) (h (p ∷ ps) (from, to, is, more))

-- the rest has pointers
pub record HasRest (bytes : List ℕ) (start : ℕ) (rest : List ℕ) : Type 0 where
  pub pointers : List Tokens
  pub are : ArePointers bytes start rest pointers
  pub utf8 : AreUtf8 pointers

pub passed : (bytes : List ℕ) (start end : ℕ) (rest : List ℕ) → HasRest bytes start (end ∷ rest)
    → HasRest bytes end rest
passed bytes start end rest h = go h.pointers h.are h.utf8
  where
    go : (ps : List Tokens) → ArePointers bytes start (end ∷ rest) ps → AreUtf8 ps → HasRest bytes end rest
    go [] are utf8 = absurd are
    go (p ∷ ps) are utf8 = record { pointers = ps; are = are.3; utf8 = utf8.1 }

pub refused : (bytes : List ℕ) (start end : ℕ) (rest : List ℕ)
    → ((p : Tokens) → IsUtf8 (pointer_text p) → start ≤ end → end ≤ length bytes
    → pointer_text p ≡ take (end - start) (drop start bytes) → ⊥) → HasRest bytes start (end ∷ rest) → ⊥
refused bytes start end rest never h = go h.pointers h.are h.utf8
  where
    go : (ps : List Tokens) → ArePointers bytes start (end ∷ rest) ps → AreUtf8 ps → ⊥
    go [] are utf8 = are
    go (p ∷ ps) are utf8 = never p utf8.0 are.0 are.1 are.2

pub map_twice : {A B C : Type 0} (f : A → B) (g : B → C) (xs : List A) → map (λ x. g (f x)) xs ≡ map g (map f xs)
map_twice f g [] = refl
map_twice f g (x ∷ xs) = ap (λ ys. g (f x) ∷ ys) (map_twice f g xs)
