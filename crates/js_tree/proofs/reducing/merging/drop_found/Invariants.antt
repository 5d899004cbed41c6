use Rattle.js_tree.proofs.Compaction.{MovedToFront}
use Rattle.js_tree.proofs.Differing.{AreFirsts}
use Rattle.js_tree.proofs.reducing.merging.drop_found.Given as goal

abbrev pub invariant-loop-i : goal.invariant-loop-i
invariant-loop-i l = MovedToFront (AreFirsts l.by_marks) l.initial.trees l.trees l.count l.i
