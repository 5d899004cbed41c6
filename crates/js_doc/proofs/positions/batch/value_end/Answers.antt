use Rattle.std.proofs.Common.{◌≤◌, length, sym, subst, arith}
use Rattle.js_doc.proofs.ValueEnds.{token_within}
use Rattle.js_doc.proofs.positions.batch.value_end.Goals as goal

pub trimmed_length-requires : goal.trimmed_length-requires
trimmed_length-requires c =
    subst (λ t. c.start_of.result ≤ length t) (sym c.as_bytes.ensures.value)
    (omega (arith, c.start_of.ensures, token_within c.after.result c.args.text.now))
