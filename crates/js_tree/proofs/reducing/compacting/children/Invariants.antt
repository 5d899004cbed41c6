use Rattle.std.proofs.Common.{◌-◌}
use Rattle.js_tree.specs.code.Compacting.{IsRemaining}
use Rattle.js_tree.proofs.reducing.compacting.children.Given as goal

abbrev pub invariant-loop-next : goal.invariant-loop-next
invariant-loop-next l = IsRemaining l.rows l.first l.end l.next l.remaining.trees l.remaining.nodes

abbrev pub decreases-loop-next : goal.decreases-loop-next
decreases-loop-next l = l.end - l.next
