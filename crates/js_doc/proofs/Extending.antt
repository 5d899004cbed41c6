-- A text that grows at its end keeps what stood there.
use Rattle.std.proofs.Common.{◌≡◌, ℕ, ◌≤◌, List, ◌++◌, length, take, drop, sym, ap, ◌∙◌, subst, arith}
use Rattle.std.proofs.lemmas.List.{length-take, take-append-le, take-append-drop}
use Rattle.js_doc.specs.code.Extends.{Extends}

is_longer : (s t : List ℕ) → Extends s t → length s ≤ length t
is_longer s t e = let n : length (take (length s) t) ≡ length s = ap length e in
    omega (arith, n, length-take (length s) t)

grown : (s t piece : List ℕ) → Extends s t → Extends s (t ++ piece)
grown s t piece e = take-append-le (length s) t piece (is_longer s t e) ∙ e

-- one piece more
pub grown_to : (s t u piece : List ℕ) → Extends s t → u ≡ t ++ piece → Extends s u
grown_to s t u piece e is = subst (Extends s) (sym is) (grown s t piece e)

pub then : (s t u : List ℕ) → Extends s t → Extends t u → Extends s u
then s t u e f =
    let n = length s in
    let m = length t in
    let front : n ≤ length (take m u) = omega (arith, is_longer s t e, ap length f) in
    ap (take n) (sym (take-append-drop m u)) ∙ take-append-le n (take m u) (drop m u) front ∙ ap (take n) f ∙ e
