-- The largest index, which is the last.
use Rattle.std.proofs.Common.{◌≡◌, ℕ, suc, ◌-◌, ◌<◌, List, [], ◌∷◌, length, get_or, refl, sym, ap, ◌∙◌, arith}
use Rattle.js_eval.specs.Note.{largest, index}

last_is : (xs : List ℕ) (d : ℕ) → 0 < length xs → largest xs ≡ index (get_or xs (length xs - 1) d)
last_is [] d h = absurd (omega arith)
last_is (i ∷ []) d h = refl
last_is (i ∷ j ∷ js) d h =
    let e : length (i ∷ j ∷ js) - 1 ≡ suc (length (j ∷ js) - 1) = omega arith in
    last_is (j ∷ js) d (omega arith) ∙ sym (ap (λ k. index (get_or (i ∷ j ∷ js) k d)) e)

pub largest_is : (xs ys : List ℕ) (i : ℕ) → xs ≡ ys → 0 < length xs
    → i ≡ get_or xs (length xs - 1) i → index i ≡ largest ys
largest_is xs ys i same h e = ap index e ∙ (sym (last_is xs i h) ∙ ap largest same)
