use Rattle.std.proofs.Common.{◌+◌, ◌*◌}
use Rattle.js_tree.specs.Forest.{forest_of, node_count}
use Rattle.js_tree.specs.code.Reductions.{left_of_each}
use Rattle.js_tree.proofs.Compaction.{Reduced}
use Rattle.js_tree.proofs.reducing.reduction.+reduce.Given as goal

abbrev pub decreases-reduce_one : goal.decreases-reduce_one
decreases-reduce_one l = 3 * node_count l.tree.now.below + 2

abbrev pub decreases-reduce_children : goal.decreases-reduce_children
decreases-reduce_children l = 3 * node_count (forest_of l.children.now) + 1

abbrev pub decreases-reduce_all : goal.decreases-reduce_all
decreases-reduce_all l = 3 * node_count (forest_of l.trees.now)

abbrev pub invariant-reduce_all-loop-i : goal.invariant-reduce_all-loop-i
invariant-reduce_all-loop-i l = Reduced (left_of_each l.reduction) l.initial.trees l.trees l.count l.i
