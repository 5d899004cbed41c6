-- The state of each collector after a walk into it (JSON Schema Core, section 12.4).
use Rattle.std.specs.Prelude.{◌≡◌, ℕ, Bool, Some}
use Rattle.js_bundle.specs.Document.{Documents}
use Rattle.js_doc.specs.Value.{Value}
use Rattle.js_tree.specs.BoxedState.{boxed_after, boxed_start, boxed_state}
use Rattle.js_tree.specs.FlatState.{flat_after, flat_start, flat_state, whole_tree}
use Rattle.js_tree.specs.VerdictState.{verdict_after, verdict_start, verdict_state}
use Rattle.js_tree.specs.declared.collecting.boxed.Boxed.{Boxed}
use Rattle.js_tree.specs.declared.collecting.flat.Flat.{Flat}
use Rattle.js_tree.specs.declared.collecting.verdict.Verdict.{Verdict}
use Rattle.js_eval.specs.Result.{AreAtMostStandard, ResultTree}
use Rattle.js_eval.specs.declared.evaluation.limits.Limits.{Limits}
use Rattle.js_eval.specs.Walked.{IsResultWithin, IsVerdict, LeadsTo}

-- v is evaluated at the place with this number, with these limits, and c is a new collector
module _ (limits : Limits) (documents : Documents) (place : ℕ) (v : Value) where
  abbrev pub VerdictIsCollected : Type 0
  VerdictIsCollected =
      AreAtMostStandard limits → (c d : Verdict) → verdict_state c ≡ verdict_start
      → LeadsTo limits documents place v (λ a e b. verdict_state b ≡ verdict_after (verdict_state a) e) c d
      → (valid : Bool) × IsVerdict limits documents place v valid × ((verdict_state d).valid ≡ Some valid)

  abbrev pub TreeIsCollected : Type 0
  TreeIsCollected =
      (c d : Boxed) → boxed_state c ≡ boxed_start
      → LeadsTo limits documents place v (λ a e b. boxed_state b ≡ boxed_after (boxed_state a) e) c d
      → (t : ResultTree) × IsResultWithin limits documents place v t × ((boxed_state d).found ≡ Some t)

  abbrev pub RowsAreCollected : Type 0
  RowsAreCollected =
      (c d : Flat) → flat_state c ≡ flat_start
      → LeadsTo limits documents place v (λ a e b. flat_state b ≡ flat_after (flat_state a) e) c d
      → (t : ResultTree) × IsResultWithin limits documents place v t × (flat_state d ≡ whole_tree t)
