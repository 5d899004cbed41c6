use Rattle.js_tree.proofs.Differing.{IsReached}
use Rattle.js_tree.proofs.reducing.sorting.differ_by_list.Given as goal

abbrev pub invariant-loop-seen : goal.invariant-loop-seen
invariant-loop-seen l = IsReached l.trees l.place l.seen
