use Rattle.std.proofs.Common.{◌+◌, ◌-◌, ◌*◌, length}
use Rattle.js_tree.specs.Forest.{forest_of}
use Rattle.js_tree.proofs.RowsOfTrees.PlacedRows.{TakesUpTo}
use Rattle.js_tree.proofs.rows.whole_tree.+take_trees.Given as goal

abbrev pub decreases-take_tree : goal.decreases-take_tree
decreases-take_tree l = 2 * length l.rows.now

abbrev pub decreases-take_trees : goal.decreases-take_trees
decreases-take_trees l = 2 * length l.rows.now + 1

abbrev pub invariant-take_trees-loop-next : goal.invariant-take_trees-loop-next
invariant-take_trees-loop-next l =
    TakesUpTo (forest_of l.trees.items) l.fn.rows l.rows l.next l.fn.locations l.locations

abbrev pub decreases-take_trees-loop-next : goal.decreases-take_trees-loop-next
decreases-take_trees-loop-next l = length l.rows - l.next
