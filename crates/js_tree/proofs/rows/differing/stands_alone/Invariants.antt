use Rattle.std.proofs.Common.{◌-◌, drop, length}
use Rattle.js_tree.specs.Rows.RelativeState.{relative_row}
use Rattle.js_tree.specs.code.Differing.{none_there}
use Rattle.js_tree.proofs.RowsOfTrees.SiblingsDiffer.{SeesUpTo}
use Rattle.js_tree.proofs.rows.differing.stands_alone.Given as goal

abbrev pub invariant-loop-next : goal.invariant-loop-next
invariant-loop-next l = SeesUpTo l.rows l.next (drop l.start l.rows) (none_there (relative_row l.row).0)
    (none_there (relative_row l.row).0)

abbrev pub decreases-loop-next : goal.decreases-loop-next
decreases-loop-next l = length l.rows - l.next
