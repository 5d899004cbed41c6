-- After a walk into one of the collectors it holds what its events give.
use Rattle.std.specs.Prelude.{ℕ, suc, ◌<◌, ◌≤◌, ◌^◌, refl}
use Rattle.std.proofs.Common.{arith, lit<}
use Rattle.js_bundle.specs.Document.{Documents}
use Rattle.js_doc.specs.Value.{Value}
use Rattle.js_tree.specs.Forest.{Forest, empty, tree, height, node_count}
use Rattle.js_tree.proofs.WholeTreeCollected.{boxed_held}
use Rattle.js_tree.proofs.FlatFormCollected.{flat_held}
use Rattle.js_tree.proofs.VerdictCollected.{verdict_held}
use Rattle.js_eval.specs.Collected.{VerdictIsCollected, TreeIsCollected, RowsAreCollected}
use Rattle.js_eval.specs.Result.{AreAtMostStandard, ResultTree, IsWithinLimits}
use Rattle.js_eval.specs.declared.evaluation.limits.Limits.{Limits}

height_le_nodes : {A : Type 0} (f : Forest A) → height f ≤ node_count f
height_le_nodes empty = omega arith
height_le_nodes (tree a below after) = omega (arith, height_le_nodes below, height_le_nodes after)

millions : 1000001 < 2 ^ 64
millions = lit< tt

height_bound : (limits : Limits) → AreAtMostStandard limits → (t : ResultTree) → IsWithinLimits limits t
    → suc (height t.below) < 2 ^ 64
height_bound limits most t w = omega (arith, w.many, most.nodes, height_le_nodes t.below, millions)

module _ (limits : Limits) (documents : Documents) (place : ℕ) (v : Value) where
  pub verdict_collected : VerdictIsCollected limits documents place v
  verdict_collected most c d start h = (
    h.result.root.valid,
    record { result = h.result; within = h.within; verdict = refl },
    verdict_held h.result c d
        (height_bound limits most h.result h.within.stands) start h.passes,
  )

  pub tree_collected : TreeIsCollected limits documents place v
  tree_collected c d start h = (h.result, h.within, boxed_held h.result c d start h.passes)

  pub rows_collected : RowsAreCollected limits documents place v
  rows_collected c d start h = (h.result, h.within, flat_held h.result c d start h.passes)
