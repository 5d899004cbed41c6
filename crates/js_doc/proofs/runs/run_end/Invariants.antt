use Rattle.std.proofs.Common.{◌-◌, length}
use Rattle.js_doc.proofs.QuotedRuns.{IsRunUpTo}
use Rattle.js_doc.proofs.runs.run_end.Given as goal

abbrev pub invariant-loop-end : goal.invariant-loop-end
invariant-loop-end l = IsRunUpTo l.bytes l.start l.end

abbrev pub decreases-loop-end : goal.decreases-loop-end
decreases-loop-end l = length l.bytes - l.end
