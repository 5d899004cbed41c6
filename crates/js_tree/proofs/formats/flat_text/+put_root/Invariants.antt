use Rattle.std.proofs.Common.{◌+◌, ◌-◌, ◌*◌, length}
use Rattle.js_tree.specs.FlatState.{row_of}
use Rattle.js_tree.proofs.ChildTexts.{WroteTrees}
use Rattle.js_tree.proofs.NextRows.{TreesLeft}
use Rattle.js_tree.proofs.formats.flat_text.+put_root.Given as goal

abbrev pub decreases-put_root : goal.decreases-put_root
decreases-put_root g l = 2 * length l.rows.now

abbrev pub decreases-put_roots : goal.decreases-put_roots
decreases-put_roots g l = 2 * length l.rows.now + 1

abbrev pub invariant-put_roots-loop-next : goal.invariant-put_roots-loop-next
invariant-put_roots-loop-next g l =
    TreesLeft row_of l.rows l.next (WroteTrees (g.O.Out.progress l.fn.out) (g.O.Out.progress l.out) l.later)

abbrev pub decreases-put_roots-loop-next : goal.decreases-put_roots-loop-next
decreases-put_roots-loop-next g l = length l.rows - l.next
