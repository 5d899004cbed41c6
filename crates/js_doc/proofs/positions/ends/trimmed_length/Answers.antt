use Rattle.std.proofs.Common.{◌≡◌, take, sym, ap, ◌∙◌, arith}
use Rattle.js_doc.specs.Positions.{trimmed_length}
use Rattle.js_doc.proofs.ValueEnds.{trimmed_before, trimmed_here}
use Rattle.js_doc.proofs.positions.ends.trimmed_length.Goals as goal

pub loop-end-preserved : goal.loop-end-preserved
loop-end-preserved c =
    let l = c.loop-end.invariant in (
      omega (arith, l.0),
      l.1 ∙ trimmed_before c.args.text.now c.loop-end.end (omega (arith, c.loop-end-test.true))
          (omega (arith, l.0, c.requires)) (sym c.is_separator.ensures ∙ c.if-is_separator.true),
    )

pub returns-else-is_separator : goal.returns-else-is_separator
returns-else-is_separator c =
    let l = c.loop-end.invariant in
    sym (l.1 ∙ trimmed_here c.args.text.now c.loop-end.end (omega (arith, c.loop-end-test.true))
    (omega (arith, l.0, c.requires)) (sym c.is_separator.ensures ∙ c.if-is_separator.false))

pub returns-after-loop-end : goal.returns-after-loop-end
returns-after-loop-end c =
    let l = c.loop-end.invariant in
    let none : c.loop-end.end ≡ 0 = omega (arith, c.loop-end-test.false) in
    none ∙ sym (l.1 ∙ ap (λ n. trimmed_length (take n c.args.text.now)) none)
