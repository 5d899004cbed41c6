use Rattle.std.proofs.Common.{◌≡◌, length, sym, ap, ◌∙◌, arith}
use Rattle.js_doc.specs.Positions.{line_and_column_at, spot_at, token_start}
use Rattle.js_doc.proofs.positions.spots.spot_of.Goals as goal

pub returns : goal.returns
returns c =
    let text = c.args.text.now in
    let start : token_start c.args.number text
    ≡ length text = c.requires.1 c.args.number (omega (arith, c.if-number-spots.false)) in
    let lines : c.line_and_column-line.result ≡ line_and_column_at (length text) text = c.line_and_column-line.ensures
    ∙ ap (line_and_column_at (length text)) c.as_bytes.ensures.value in
    ap (λ p. (length text, p)) lines ∙ ap (spot_at text) (sym start)
