use Rattle.std.proofs.Common.{◌-◌, length}
use Rattle.js_tree.specs.code.PartOrder.{differ_below}
use Rattle.js_tree.proofs.RowsOfTrees.SiblingsDiffer.{SeesUpTo}
use Rattle.js_tree.proofs.rows.differing.+siblings_differ.Given as goal

abbrev pub decreases-siblings_differ : goal.decreases-siblings_differ
decreases-siblings_differ l = length l.rows.now

abbrev pub invariant-loop-next : goal.invariant-loop-next
invariant-loop-next l = SeesUpTo l.rows l.next l.rows differ_below differ_below

abbrev pub decreases-loop-next : goal.decreases-loop-next
decreases-loop-next l = length l.rows - l.next
