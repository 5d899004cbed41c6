use Rattle.std.proofs.Common.{arith}
use Rattle.js_doc.proofs.ValueEnds.{token_within}
use Rattle.js_doc.proofs.positions.value_end.Goals as goal

pub trimmed_length-requires : goal.trimmed_length-requires
trimmed_length-requires c =
    omega (arith, c.token_start.ensures, token_within c.after.result c.args.text.now)
