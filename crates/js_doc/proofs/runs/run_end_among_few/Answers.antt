use Rattle.std.proofs.Common.{◌+◌, ◌-◌, length, ◌∙◌, arith}
use Rattle.js_doc.proofs.EscapeMasks.{run_from, run_through, run_stops}
use Rattle.js_doc.proofs.runs.run_end_among_few.Goals as goal

pub returns-then-escapes-ne0 : goal.returns-then-escapes-ne0
returns-then-escapes-ne0 c =
    let run = run_stops c.args.bytes.now c.args.start 8 _ c.escapes_of-escapes.ensures (omega arith)
    (omega arith) (omega arith) in
    omega (arith, run)

pub returns : goal.returns
returns c =
    let bytes = c.args.bytes.now in
    let start = c.args.start in
    let run = run_through bytes start 8 (omega arith) (omega (arith, c.escapes_of-escapes.ensures)) in
    c.run_end_in_last.ensures
    ∙ run_from bytes start (length bytes - 8) (start + 8) (omega arith) (omega arith) (omega (arith, run))
