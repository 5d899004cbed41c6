use Rattle.std.proofs.Common.{◌≡◌, ◌+◌, ◌*◌, drop}
use Rattle.js_tree.specs.Forest.{forest_of, node_count}
use Rattle.js_tree.specs.code.Order.{forest_order}
use Rattle.js_tree.proofs.reducing.order.+compare.Given as goal

abbrev pub decreases-compare : goal.decreases-compare
decreases-compare l = 2 * node_count l.a.now.below + 1

abbrev pub decreases-compare_all : goal.decreases-compare_all
decreases-compare_all l = 2 * node_count (forest_of l.a.now)

abbrev pub invariant-compare_all-loop-tree : goal.invariant-compare_all-loop-tree
invariant-compare_all-loop-tree l = forest_order (forest_of l.a) (forest_of l.b)
    ≡ forest_order (forest_of (drop l.tree-index l.a)) (forest_of l.others.rest.now)
