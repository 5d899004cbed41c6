use Rattle.std.proofs.Common.{◌-◌, length, ◌∙◌, arith}
use Rattle.js_doc.proofs.EscapeMasks.{run_bound, run_from, run_through, run_stops}
use Rattle.js_doc.proofs.runs.run_end.Goals as goal

pub returns-then-escapes-ne0-clause-value : goal.returns-then-escapes-ne0-clause-value
returns-then-escapes-ne0-clause-value c =
    let run = run_stops c.args.bytes.now c.loop-end.end 16 _ c.escapes_of-escapes.ensures (omega arith)
    (omega arith) (omega arith) in
    omega (arith, run, c.loop-end.invariant.0)

pub returns-then-escapes-ne0-clause-bound : goal.returns-then-escapes-ne0-clause-bound
returns-then-escapes-ne0-clause-bound c =
    let run = run_stops c.args.bytes.now c.loop-end.end 16 _ c.escapes_of-escapes.ensures (omega arith)
    (omega arith) (omega arith) in
    omega (arith, run, run_bound c.args.bytes.now c.loop-end.end c.loop-end.invariant.1)

pub loop-end-preserved : goal.loop-end-preserved
loop-end-preserved c =
    let run = run_through c.args.bytes.now c.loop-end.end 16 (omega arith)
    (omega (arith, c.escapes_of-escapes.ensures)) in
    (omega (arith, run, c.loop-end.invariant.0), omega arith)

pub returns-then-bytes-start-lt16-clause-bound : goal.returns-then-bytes-start-lt16-clause-bound
returns-then-bytes-start-lt16-clause-bound c =
    omega (arith, c.run_end_among_few.ensures, run_bound c.args.bytes.now c.args.start c.requires)

pub returns-clause-value : goal.returns-clause-value
returns-clause-value c =
    let bytes = c.args.bytes.now in
    let end = c.loop-end.end in
    c.run_end_in_last.ensures
    ∙ run_from bytes c.args.start (length bytes - 16) end (omega arith) (omega arith) c.loop-end.invariant.0

pub returns-clause-bound : goal.returns-clause-bound
returns-clause-bound c =
    omega (arith, c.run_end_in_last.ensures, run_bound c.args.bytes.now (length c.args.bytes.now - 16) (omega arith))
