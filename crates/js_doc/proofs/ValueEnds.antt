-- The length without the separators at the end, when the last byte is looked at.
use Rattle.std.proofs.Common.{◌≡◌, ℕ, suc, ◌+◌, ◌-◌, ◌<◌, ◌≤◌, List, [], ◌∷◌, ◌++◌, Bool, true, false, ◌&&◌, ◌||◌, ◌==◌}
use Rattle.std.proofs.Common.{if◌then◌else◌, length, take, get_or, refl, sym, ap, ◌∙◌, arith}
use Rattle.std.proofs.lemmas.List.{length-take-le, take_more}
use Rattle.js_doc.specs.Positions.{are_separators, begins, bytes_before, is_separator, mode_past, token_start}
use Rattle.js_doc.specs.Positions.{trimmed_length}
use Rattle.json.specs.Lex.{Mode, between}

both_separators : (xs : List ℕ) (x : ℕ) → is_separator x ≡ true → are_separators (xs ++ x ∷ []) ≡ are_separators xs
both_separators [] x e = ap (λ b. b && true) e
both_separators (y ∷ xs) x e = ap (λ b. is_separator y && b) (both_separators xs x e)

and_false : (b : Bool) → (b && false) ≡ false
and_false true = refl
and_false false = refl

no_separators : (xs : List ℕ) (x : ℕ) → is_separator x ≡ false → are_separators (xs ++ x ∷ []) ≡ false
no_separators [] x e = ap (λ b. b && true) e
no_separators (y ∷ xs) x e = ap (λ b. is_separator y && b) (no_separators xs x e) ∙ and_false (is_separator y)

trimmed_past : (xs : List ℕ) (x : ℕ) → is_separator x ≡ true → trimmed_length (xs ++ x ∷ []) ≡ trimmed_length xs
trimmed_past [] x e = ap (λ b. if b && true then 0 else 1) e
trimmed_past (y ∷ xs) x e =
    ap (λ b. if is_separator y && b then 0 else suc (trimmed_length (xs ++ x ∷ []))) (both_separators xs x e)
    ∙ ap (λ n. if are_separators (y ∷ xs) then 0 else suc n) (trimmed_past xs x e)

trimmed_at : (xs : List ℕ) (x : ℕ) → is_separator x ≡ false → trimmed_length (xs ++ x ∷ []) ≡ suc (length xs)
trimmed_at [] x e = ap (λ b. if b && true then 0 else 1) e
trimmed_at (y ∷ xs) x e =
    ap (λ b. if b then 0 else suc (trimmed_length (xs ++ x ∷ []))) (no_separators (y ∷ xs) x e)
    ∙ ap suc (trimmed_at xs x e)

pub trimmed_before : (text : List ℕ) (end : ℕ) → 0 < end → end ≤ length text
    → is_separator (get_or text (end - 1) 0) ≡ true
    → trimmed_length (take end text) ≡ trimmed_length (take (end - 1) text)
trimmed_before text end some within e =
    let more : end ≡ end - 1 + 1 = omega (arith, some) in
    ap (λ n. trimmed_length (take n text)) more
    ∙ ap trimmed_length (take_more text (end - 1) 0 (omega (arith, some, within)))
    ∙ trimmed_past (take (end - 1) text) (get_or text (end - 1) 0) e

pub trimmed_here : (text : List ℕ) (end : ℕ) → 0 < end → end ≤ length text
    → is_separator (get_or text (end - 1) 0) ≡ false → trimmed_length (take end text) ≡ end
trimmed_here text end some within e =
    let more : end ≡ end - 1 + 1 = omega (arith, some) in
    let long : length (take (end - 1) text) ≡ end - 1 = length-take-le (end - 1) text (omega (arith, within)) in
    ap (λ n. trimmed_length (take n text)) more
    ∙ ap trimmed_length (take_more text (end - 1) 0 (omega (arith, some, within)))
    ∙ trimmed_at (take (end - 1) text) (get_or text (end - 1) 0) e ∙ omega (arith, some, long)

turn_within : (here : Bool) (rest long : ℕ) → rest ≤ long → (if here then 0 else suc rest) ≤ suc long
turn_within true rest long h = omega arith
turn_within false rest long h = omega (arith, h)

before_within : (m : Mode) (n : ℕ) (xs : List ℕ) → bytes_before m n xs ≤ length xs
before_within m n [] = omega arith
before_within m n (x ∷ xs) =
    turn_within (begins m x && (n == 0)) (bytes_before (mode_past m x) (if begins m x then n - 1 else n) xs) (length xs)
    (before_within (mode_past m x) (if begins m x then n - 1 else n) xs)

pub token_within : (n : ℕ) (text : List ℕ) → token_start n text ≤ length text
token_within n text = before_within between n text
