use Rattle.std.proofs.Common.{◌+◌, drop, get_or, sym, ap, ◌∙◌, arith}
use Rattle.std.proofs.lemmas.List.{drop_more}
use Rattle.js_doc.specs.Positions.{line_and_column_past}
use Rattle.js_doc.proofs.SpotTable.{one_byte}
use Rattle.js_doc.proofs.positions.lines.line_and_column.Goals as goal

pub loop-byte-preserved : goal.loop-byte-preserved
loop-byte-preserved c =
    let before = c.if-offset-text.before.now in let i = c.loop-byte.byte-index in let l = c.loop-byte.invariant in
    let line = c.loop-byte.line in let column = c.loop-byte.column in let rest = drop (i + 1) before in (
      omega (arith, c.line_and_column_past-behind.ensures.small.0, l.0),
      omega (arith, c.line_and_column_past-behind.ensures.small.1, l.1),
      l.2 ∙ ap (line_and_column_past line column) (drop_more before i 0 (omega arith))
          ∙ one_byte line column (get_or before i 0) rest
          ∙ ap (λ p. line_and_column_past p.0 p.1 rest) (sym c.line_and_column_past-behind.ensures.is),
    )
