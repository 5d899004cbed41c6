use Rattle.std.proofs.Common.{◌≤◌}
use Rattle.js_tree.proofs.reducing.sorting.mark_alike.Given as goal

abbrev pub invariant-loop-i : goal.invariant-loop-i
invariant-loop-i l = l.count ≤ l.i
