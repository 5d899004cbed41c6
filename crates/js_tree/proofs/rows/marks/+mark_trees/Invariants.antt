use Rattle.std.proofs.Common.{◌+◌, ◌-◌, ◌*◌, length}
use Rattle.js_tree.proofs.RowsOfTrees.MarkedRows.{MarksUpTo}
use Rattle.js_tree.proofs.rows.marks.+mark_trees.Given as goal

abbrev pub decreases-mark_tree : goal.decreases-mark_tree
decreases-mark_tree l = 2 * length l.rows.now

abbrev pub decreases-mark_trees : goal.decreases-mark_trees
decreases-mark_trees l = 2 * length l.rows.now + 1

abbrev pub invariant-mark_trees-loop-next : goal.invariant-mark_trees-loop-next
invariant-mark_trees-loop-next l = MarksUpTo l.verdict l.rows l.next l.fn.marks.items l.marks.items l.trees

abbrev pub decreases-mark_trees-loop-next : goal.decreases-mark_trees-loop-next
decreases-mark_trees-loop-next l = length l.rows - l.next
