use Rattle.std.proofs.Common.{◌≡◌, ◌-◌, length}
use Rattle.js_eval.specs.code.Applicator.{applicators_from}
use Rattle.js_eval.proofs.order.applying.Applying.next_applicator.Given as goal

abbrev pub invariant-loop-self : goal.invariant-loop-self
invariant-loop-self l = applicators_from l.self.members.now l.self.rank
    ≡ applicators_from l.fn.self.members.now l.fn.self.rank

abbrev pub decreases-loop-self : goal.decreases-loop-self
decreases-loop-self l = length l.self.names.now - l.self.rank
