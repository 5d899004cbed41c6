use Rattle.std.proofs.Common.{◌-◌, length}
use Rattle.js_tree.specs.code.PartOrder.{ascend_behind, roots_differ}
use Rattle.js_tree.proofs.RowsOfTrees.SiblingsDiffer.{SeesUpTo}
use Rattle.js_tree.proofs.rows.differing.roots_ascend.Given as goal

abbrev pub invariant-loop-next : goal.invariant-loop-next
invariant-loop-next l = SeesUpTo l.rows l.next l.rows (ascend_behind (l.rank, l.last)) roots_differ

abbrev pub decreases-loop-next : goal.decreases-loop-next
decreases-loop-next l = length l.rows - l.next
