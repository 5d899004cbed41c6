use Rattle.std.proofs.Common.{◌-◌, length, arith}
use Rattle.js_doc.proofs.EscapeMasks.{run_stops, last_stands}
use Rattle.js_doc.proofs.runs.run_end_in_last.Goals as goal

pub returns-then-escapes-ne0 : goal.returns-then-escapes-ne0
returns-then-escapes-ne0 g c =
    let run = run_stops c.args.bytes.now (length c.args.bytes.now - g.row.N) g.row.N _ c.escapes_of-escapes.ensures
    (omega (arith, c.requires.1)) c.requires.0 (omega arith) in omega (arith, run)

pub returns : goal.returns
returns g c = last_stands c.args.bytes.now g.row.N c.requires.1 (omega (arith, c.escapes_of-escapes.ensures))
