-- The state of each collector after the events of a tree.
use Rattle.std.specs.Prelude.{◌≡◌, suc, ◌<◌, ◌^◌, [], Some}
use Rattle.js_tree.specs.BoxedState.{boxed_after, boxed_start, boxed_state}
use Rattle.js_tree.specs.Events.{events, Passes}
use Rattle.js_tree.specs.FlatState.{flat_after, flat_start, flat_state, whole_tree}
use Rattle.js_tree.specs.Forest.{height}
use Rattle.js_tree.specs.Result.{ResultTree}
use Rattle.js_tree.specs.VerdictState.{verdict_after, verdict_start, verdict_state}
use Rattle.js_tree.specs.declared.collecting.boxed.Boxed.{Boxed}
use Rattle.js_tree.specs.declared.collecting.flat.Flat.{Flat}
use Rattle.js_tree.specs.declared.collecting.verdict.Verdict.{Verdict}

abbrev pub VerdictHolds : Type 0
VerdictHolds =
    (t : ResultTree) (c d : Verdict) → suc (height t.below) < 2 ^ 64 → verdict_state c ≡ verdict_start
    → Passes (λ a e b. verdict_state b ≡ verdict_after (verdict_state a) e) (events t) c d
    → (verdict_state d).valid ≡ Some t.root.valid

abbrev pub BoxedHolds : Type 0
BoxedHolds =
    (t : ResultTree) (c d : Boxed) → boxed_state c ≡ boxed_start
    → Passes (λ a e b. boxed_state b ≡ boxed_after (boxed_state a) e) (events t) c d → (boxed_state d).found ≡ Some t

-- no node is open
abbrev pub BoxedClosesAll : Type 0
BoxedClosesAll =
    (t : ResultTree) (c d : Boxed) → boxed_state c ≡ boxed_start
    → Passes (λ a e b. boxed_state b ≡ boxed_after (boxed_state a) e) (events t) c d → (boxed_state d).frames ≡ []

abbrev pub FlatHolds : Type 0
FlatHolds =
    (t : ResultTree) (c d : Flat) → flat_state c ≡ flat_start
    → Passes (λ a e b. flat_state b ≡ flat_after (flat_state a) e) (events t) c d → flat_state d ≡ whole_tree t
