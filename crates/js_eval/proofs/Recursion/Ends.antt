-- From a walk's own limits to those of a result.
use Rattle.std.specs.Prelude.{◌≡◌, ℕ, Bool, true, false, List, []}
use Rattle.std.proofs.Common.{sym, ◌∙◌, ap, arith, inl, inr}
use Rattle.js_doc.specs.Value.{Value}
use Rattle.js_eval.specs.Location.{at_root}
use Rattle.js_eval.specs.Result.{Limits, ResultTree, IsResult, IsWithinLimits}
use Rattle.js_eval.specs.SchemaSet.{SchemaSet}
use Rattle.js_eval.proofs.DepthAndSize.{settled_from_depth, depth_from_settled, size_from_settled}
use Rattle.js_tree.specs.Events.{Event}
use Rattle.js_eval.specs.Walk.Reported.{Reported}
use Rattle.js_eval.specs.Walk.Steps.{NodeDone}
use Rattle.js_eval.specs.Walk.Progress.{HasNone}
use Rattle.js_eval.specs.declared.evaluation.walk_state.WalkState.{WalkState}

module _ {M H K C P : Type 0} (S : SchemaSet P) (text_of : M → List ℕ) (takes : C → Event → C
    → Type 0) (place : P) (v : Value) (limits : Limits) where
  pub led : (valid : Bool) (path : List P) (w w' : WalkState M H K) (c d : C) → path ≡ []
      → w.left ≡ limits.nodes → w.keyword ≡ [] → w.instance ≡ []
      → NodeDone S text_of takes limits.levels path place v valid w w' c d
      → Reported limits S place v takes valid c d
  led valid path w w' c d p l k i walk =
      let done = rw p at walk in
      let t = done.reported at_root (record { schemas = k; value = i }) in
      let s = done.walked.settled in
      let deep = depth_from_settled S limits.levels limits.levels [] place at_root v t.result s t.node s in
      let many = size_from_settled S limits.levels limits.levels [] place at_root v t.result s t.node s in
      let spent = done.walked.spent in
      record {
        result = t.result;
        is = record { bound = limits.levels; settled = s; node = t.node };
        stands = record { deep = deep; many = omega (arith, many, spent, l) };
        verdict = done.walked.verdict ∙ sym (ap (λ u. u.valid) t.node.0);
        passes = t.passes;
      }

module _ {P : Type 0} (S : SchemaSet P) (place : P) (v : Value) (limits : Limits) where
  pub none_led : (path : List P) (old : ℕ) → path ≡ [] → old ≡ limits.nodes
      → HasNone S limits.levels path place v old → (t : ResultTree) → IsResult S [] place at_root v t
      → IsWithinLimits limits t → ⊥
  none_led path old p l one t is stands =
      let none = rw p at one in
      let settled = settled_from_depth S is.bound limits.levels [] place at_root v t is.settled is.node stands.deep in
      elim none [
        | inl s ↦ (let z : true ≡ false = sym settled ∙ s in cc)
        | inr x ↦ (let many = size_from_settled S is.bound limits.levels [] place at_root v t is.settled is.node settled
            in
            let m = stands.many in absurd (omega (arith, x, many, m, l)))
      ]
