-- Escaping a token, a character at a time.
use Rattle.std.proofs.Common.{◌≡◌, ℕ, ◌+◌, ◌/◌, ◌<◌, ◌≤◌, Bool, true, false, cond, ◌==◌, List, []}
use Rattle.std.proofs.Common.{◌∷◌, ◌++◌, ltb, lit<, refl, ap, ◌∙◌, arith}
use lib.Utf8.{encode, next}
use Rattle.js_doc.specs.Pointer.{escape}

pub escape_kept : (b : ℕ) (bs : List ℕ) → b == 126 ≡ false → b == 47 ≡ false → escape (b ∷ bs) ≡ b ∷ escape bs
escape_kept b bs e f = rw (e, f)

pub high : (b n : ℕ) → n < 128 → 128 ≤ b → b == n ≡ false
high b n h k = grind (arith)

pub escape_high : (b : ℕ) (bs : List ℕ) → 128 ≤ b → escape (b ∷ bs) ≡ b ∷ escape bs
escape_high b bs h = escape_kept b bs (high b 126 (lit< tt) h) (high b 47 (lit< tt) h)

abbrev pub encoded : Bool → Bool → Bool → ℕ → List ℕ
encoded t u v c = cond t (c ∷ []) (cond u ((192 + c / 64) ∷ next c ∷ []) (cond v ((224 + c / 4096) ∷ next (c / 64)
    ∷ next c ∷ []) ((240 + c / 262144) ∷ next (c / 4096) ∷ next (c / 64) ∷ next c ∷ [])))

one_more : (b : ℕ) (bs cs : List ℕ) → 128 ≤ b → escape bs ≡ cs → escape (b ∷ bs) ≡ b ∷ cs
one_more b bs cs h e = escape_high b bs h ∙ ap (λ xs. b ∷ xs) e

escape_encoded : (t u v : Bool) (c : ℕ) (bs : List ℕ) → c == 126 ≡ false → c == 47 ≡ false
    → escape (encoded t u v c ++ bs) ≡ encoded t u v c ++ escape bs
escape_encoded true u v c bs e f = escape_kept c bs e f
escape_encoded false true v c bs e f =
    one_more _ (next c ∷ bs) _ (omega arith) (one_more (next c) bs _ (omega arith) refl)
escape_encoded false false true c bs e f =
    one_more _ (next (c / 64) ∷ next c ∷ bs) _ (omega arith)
    (one_more (next (c / 64)) (next c ∷ bs) _ (omega arith) (one_more (next c) bs _ (omega arith) refl))
escape_encoded false false false c bs e f =
    one_more _ (next (c / 4096) ∷ next (c / 64) ∷ next c ∷ bs) _ (omega arith)
    (one_more (next (c / 4096)) (next (c / 64) ∷ next c ∷ bs) _ (omega arith)
    (one_more (next (c / 64)) (next c ∷ bs) _ (omega arith) (one_more (next c) bs _ (omega arith) refl)))

pub escape_encode : (c : ℕ) (bs : List ℕ) → c == 126 ≡ false → c == 47 ≡ false
    → escape (encode c ++ bs) ≡ encode c ++ escape bs
unfolding encode
escape_encode c bs e f = escape_encoded (ltb c 128) (ltb c 2048) (ltb c 65536) c bs e f
