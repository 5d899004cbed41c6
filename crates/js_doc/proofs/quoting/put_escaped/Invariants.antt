use Rattle.std.proofs.Common.{◌-◌, ◌≤◌, length}
use Rattle.json.specs.Print.{escape}
use Rattle.js_doc.proofs.BytesGone.{Wrote}
use Rattle.js_doc.proofs.QuotedRuns.{escaped_from}
use Rattle.js_doc.proofs.quoting.put_escaped.Given as goal

abbrev pub invariant-loop-out : goal.invariant-loop-out
invariant-loop-out g l =
    (l.start ≤ length l.bytes)
    × Wrote (g.O.Out.progress l.fn.out) (g.O.Out.progress l.out) (escaped_from l.bytes l.start) (escape l.bytes)

abbrev pub decreases-loop-out : goal.decreases-loop-out
decreases-loop-out g l = length l.bytes - l.start
