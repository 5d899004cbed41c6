use Rattle.std.proofs.Common.{◌+◌, ◌-◌, ◌*◌, length}
use Rattle.js_tree.proofs.WrittenRows.ListedRows.{ListsUpTo}
use Rattle.js_tree.proofs.formats.writer.Writer.+list_trees.Given as goal

abbrev pub decreases-list_tree : goal.decreases-list_tree
decreases-list_tree g l = 2 * length l.rows.now

abbrev pub decreases-list_trees : goal.decreases-list_trees
decreases-list_trees g l = 2 * length l.rows.now + 1

abbrev pub invariant-list_trees-loop-next : goal.invariant-list_trees-loop-next
invariant-list_trees-loop-next g l = ListsUpTo (g.O.Out.progress l.fn.out) (g.O.Out.progress l.out) l.fn.later l.later
    l.verdict l.rows l.next l.fn.self.locations l.self.locations

abbrev pub decreases-list_trees-loop-next : goal.decreases-list_trees-loop-next
decreases-list_trees-loop-next g l = length l.rows - l.next
