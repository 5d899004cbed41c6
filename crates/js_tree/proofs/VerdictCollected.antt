-- A collector of the verdict, and the events of a tree.
use Rattle.std.specs.Prelude.{◌≡◌, ℕ, suc, ◌+◌, ◌-◌, ◌^◌, ◌<◌, Bool, false, eqb, [], ◌∷◌, ◌++◌, Some, None, refl}
use Rattle.std.proofs.lemmas.Bool.Decides.{nat_tests}
use Rattle.std.proofs.Common.{arith, ap, ◌∙◌}
use Rattle.js_tree.specs.Events.{closing, events, events_of, Passes, after_all}
use Rattle.js_tree.specs.Forest.{Forest, empty, tree, height}
use Rattle.js_tree.specs.OutputUnit.{OutputUnit}
use Rattle.js_tree.specs.Result.{ResultTree}
use Rattle.js_tree.specs.VerdictState.{VerdictState, verdict_start, verdict_opened}
use Rattle.js_tree.specs.VerdictState.{verdict_closed, verdict_after, verdict_state}
use Rattle.js_tree.specs.declared.collecting.verdict.Verdict.{Verdict}
use Rattle.js_tree.proofs.EventSequences.{passes-after_all, after_all-append}

abbrev at : ℕ → VerdictState
at n = record { depth = n; valid = None }

one_more : (n : ℕ) → n < 2 ^ 64 - 1 → verdict_opened n None ≡ at (n + 1)
one_more n h = let e : eqb n (2 ^ 64 - 1) ≡ false = grind (arith, nat_tests) in rw e refl

one_less : (n : ℕ) (valid : Bool) → 0 < n → verdict_closed (n + 1) None valid ≡ at n
one_less n valid h =
    let e : eqb (n + 1) 0 ≡ false = grind (arith, nat_tests) in
    let f : eqb (n + 1) 1 ≡ false = grind (arith, nat_tests) in
    let g : (n + 1) - 1 ≡ n = omega arith in
    rw (e, f, g) refl

reported_below : (f : Forest OutputUnit) (n : ℕ) → 0 < n → n + height f < 2 ^ 64
    → after_all verdict_after (at n) (events_of f) ≡ at n
reported_below empty n h le = refl
reported_below (tree u below rest) n h le =
    ap (λ s. after_all verdict_after s (events_of below ++ (closing u.valid u.note ∷ events_of rest)))
    (one_more n (omega arith))
    ∙ (after_all-append verdict_after (at (n + 1)) (events_of below) (closing u.valid u.note ∷ events_of rest)
    ∙ (ap (λ s. after_all verdict_after s (closing u.valid u.note ∷ events_of rest))
    (reported_below below (n + 1) (omega arith) (omega arith))
    ∙ (ap (λ s. after_all verdict_after s (events_of rest)) (one_less n u.valid h)
    ∙ reported_below rest n h (omega arith))))

reported : (t : ResultTree) → suc (height t.below) < 2 ^ 64
    → after_all verdict_after verdict_start (events t) ≡ record { depth = 0; valid = Some t.root.valid }
reported t le =
    after_all-append verdict_after (at 1) (events_of t.below) (closing t.root.valid t.root.note ∷ [])
    ∙ ap (λ s. verdict_after s (closing t.root.valid t.root.note))
    (reported_below t.below 1 (omega arith) (omega arith))

pub verdict_held : (t : ResultTree) (c d : Verdict) → suc (height t.below) < 2 ^ 64 → verdict_state c ≡ verdict_start
    → Passes (λ a e b. verdict_state b ≡ verdict_after (verdict_state a) e) (events t) c d
    → (verdict_state d).valid ≡ Some t.root.valid
verdict_held t c d le h p = ap (λ s. s.valid) (passes-after_all verdict_state verdict_after (events t) c d p
    ∙ (ap (λ s. after_all verdict_after s (events t)) h ∙ reported t le))
