use Rattle.std.proofs.Common.{◌≡◌, ◌+◌, ◌*◌, take}
use Rattle.js_tree.specs.Forest.{forest_of, node_count}
use Rattle.js_tree.proofs.reducing.moves.+moves.Given as goal

abbrev pub decreases-move_below : goal.decreases-move_below
decreases-move_below l = 2 * node_count l.tree.now.below + 1

abbrev pub decreases-move_among : goal.decreases-move_among
decreases-move_among l = 2 * node_count (forest_of l.trees.now.items)

abbrev pub invariant-move_among-loop-i : goal.invariant-move_among-loop-i
invariant-move_among-loop-i l = record {
  same : l.trees.items ≡ l.initial.trees.items;
  passed : node_count (forest_of (take l.i l.initial.trees.items)) + l.position ≡ l.fn.position;
}
