-- A text with its escapes in runs of bytes that stand as they are.
use Rattle.std.proofs.Common.{◌≡◌, ℕ, suc, ◌+◌, ◌-◌, ◌<◌, ◌≤◌, ◌==◌, Bool, true, false, cond, ◌&&◌, List, [], ◌∷◌, ◌++◌}
use Rattle.std.proofs.Common.{length, take, drop, get_or, refl, ap, sym, ◌∙◌, append-nil, arith}
use Rattle.std.proofs.lemmas.Bool.Decides.{nat_tests}
use Rattle.std.proofs.lemmas.Bool.{eqb-true, ne_eqb}
use Rattle.std.proofs.lemmas.List.{take_all}
use Rattle.std.specs.List.{list_all, prefix_len}
use Rattle.json.specs.Print.{escape, escape_byte}
use Rattle.json.proofs.Printed.Strings.{escape_to_stop, escape_at, escape_end}
use Rattle.js_doc.specs.BytesOut.{Progress, Goes}
use Rattle.js_doc.specs.Escapes.{stands}
use Rattle.js_doc.proofs.BytesGone.{Wrote, goes_on, same_left}

-- what follows from i on
abbrev pub escaped_from : List ℕ → ℕ → List ℕ
escaped_from bs i = escape (drop i bs)

abbrev pub run : List ℕ → ℕ → ℕ → List ℕ
run bs start end = take (end - start) (drop start bs)

pub run_first : (bs : List ℕ) (start end : ℕ) → end ≡ start + prefix_len stands (drop start bs)
    → escaped_from bs start ≡ run bs start end ++ escaped_from bs end
run_first bs start end is =
    sym (append-nil (escaped_from bs start))
    ∙ (escape_to_stop bs start end [] is ∙ ap (λ l. run bs start end ++ l) (append-nil (escaped_from bs end)))

-- the run from start on has come as far as end: it ends where the run from there on does
abbrev pub IsRunUpTo : List ℕ → ℕ → ℕ → Type 0
IsRunUpTo bs start end =
    (start + prefix_len stands (drop start bs) ≡ end + prefix_len stands (drop end bs)) × (end ≤ length bs)

-- the run has gone out
pub run_gone : (a b c : Progress) (bs : List ℕ) (start end : ℕ) (all : List ℕ) → Wrote a b (escaped_from bs start) all
    → end ≡ start + prefix_len stands (drop start bs) → Goes b c (run bs start end)
    → Wrote a c (escaped_from bs end) all
run_gone a b c bs start end all w is run_goes =
    goes_on a b c (run bs start end) _ all (same_left a b _ _ all w (run_first bs start end is)) run_goes

-- then a byte that is escaped
pub escape_next : (bs : List ℕ) (i : ℕ) → i < length bs
    → escaped_from bs i ≡ escape_byte (get_or bs i 0) ++ escaped_from bs (i + 1)
escape_next bs i h =
    sym (append-nil (escaped_from bs i))
    ∙ (escape_at bs i [] h ∙ ap (λ l. escape_byte (get_or bs i 0) ++ l) (append-nil (escaped_from bs (i + 1))))

-- or the end
pub none_left : (bs : List ℕ) (i : ℕ) → i ≡ length bs → escaped_from bs i ≡ []
none_left bs i e = sym (append-nil (escaped_from bs i)) ∙ escape_end bs i [] (omega (arith, e))

-- ---- a text that stands as it is

one_more : (b : Bool) (n m : ℕ) → (cond b (1 + n) 0 == suc m) ≡ (b && (n == m))
one_more true n m = grind (arith, nat_tests)
one_more false n m = ne_eqb 0 (suc m) (λ (e : 0 ≡ suc m). omega (arith, e))

pub all_stand : (bs : List ℕ) → (prefix_len stands bs == length bs) ≡ list_all stands bs
all_stand [] = refl
all_stand (b ∷ bs) = one_more (stands b) (prefix_len stands bs) (length bs) ∙ ap (λ k. stands b && k) (all_stand bs)

-- it has no escapes
pub nothing_escaped : (bs : List ℕ) → list_all stands bs ≡ true → escape bs ≡ bs
nothing_escaped bs e =
    let long : prefix_len stands bs ≡ length bs = eqb-true _ _ (all_stand bs ∙ e) in
    let none : length bs - 0 ≡ length bs = omega arith in
    run_first bs 0 (length bs) (omega (arith, long))
    ∙ (ap (λ l. run bs 0 (length bs) ++ l) (none_left bs (length bs) refl)
    ∙ (append-nil (run bs 0 (length bs)) ∙ (ap (λ n. take n bs) none ∙ take_all (length bs) bs (omega arith))))
