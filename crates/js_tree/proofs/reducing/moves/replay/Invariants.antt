use Rattle.std.proofs.Common.{◌≡◌, take, Some}
use Rattle.js_tree.specs.Result.{replayed}
use Rattle.js_tree.proofs.reducing.moves.replay.Given as goal

abbrev pub invariant-loop-i : goal.invariant-loop-i
invariant-loop-i l = replayed (take l.i l.moves) l.initial.tree ≡ Some l.tree
