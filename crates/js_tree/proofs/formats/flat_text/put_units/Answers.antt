use Rattle.std.proofs.Common.{ap, subst, ◌∙◌}
use Rattle.js_doc.specs.BytesOut.{Puts}
use Rattle.js_tree.specs.FlatState.{row_of}
use Rattle.js_tree.proofs.Pieces.{then_puts, stops_in}
use Rattle.js_tree.proofs.FlatRows.{root_row}
use Rattle.js_tree.proofs.NotedRows.{units_in_parts}
use Rattle.js_tree.proofs.formats.flat_text.put_units.Goals as goal

pub returns-in_err-put_units_start : goal.returns-in_err-put_units_start
returns-in_err-put_units_start g c =
    λ t e.
    let o = g.O.Out.progress in
    let valid_is = ap (λ u. u.valid) (c.root.view_is ∙ root_row row_of _ t _ e c.index-rows-0.is) in
    subst (λ l. Puts (o c.args.out.now) (o c.put_units_start.new.out) l c.from_residual.result)
    (units_in_parts _ t c.root.inside.valid e valid_is)
    (stops_in _ _ _ _ _ c.from_residual.ensures.0 c.in_err-put_units_start.ensures)

pub returns-in_err-put_noted : goal.returns-in_err-put_noted
returns-in_err-put_noted g c =
    λ t e.
    let o = g.O.Out.progress in
    let valid_is = ap (λ u. u.valid) (c.root.view_is ∙ root_row row_of _ t _ e c.index-rows-0.is) in
    subst (λ l. Puts (o c.args.out.now) (o c.put_noted.new.out) l c.from_residual-in_err-put_noted.result)
    (units_in_parts _ t c.root.inside.valid e valid_is)
    (then_puts _ _ _ _ _ _ c.in_ok-put_units_start.ensures
    (stops_in _ _ _ _ _ c.from_residual-in_err-put_noted.ensures.0 c.in_err-put_noted.ensures))

pub returns : goal.returns
returns g c =
    λ t e.
    let o = g.O.Out.progress in
    let valid_is = ap (λ u. u.valid) (c.root.view_is ∙ root_row row_of _ t _ e c.index-rows-0.is) in
    subst (λ l. Puts (o c.args.out.now) (o c.put_valid.new.out) l c.put_valid.result)
    (units_in_parts _ t c.root.inside.valid e valid_is)
    (then_puts _ _ _ _ _ _ c.in_ok-put_units_start.ensures
    (then_puts _ _ _ _ _ _ c.in_ok-put_noted.ensures c.put_valid.ensures))
