use Rattle.std.proofs.Common.{◌++◌, ap, subst}
use Rattle.js_doc.specs.BytesOut.{Puts}
use Rattle.js_tree.specs.NodeText.{error_behind, tail_text}
use Rattle.js_tree.proofs.Pieces.{then_puts, stops_in}
use Rattle.js_tree.proofs.formats.node_text.put_back.Goals as goal

pub returns-in_err-put_error_behind : goal.returns-in_err-put_error_behind
returns-in_err-put_error_behind g c =
    let o = g.O.Out.progress in
    let r = c.from_residual.result in
    subst (λ l. Puts (o c.args.out.now) (o c.put_error_behind.new.out) (l ++ tail_text c.args.unit.now) r)
    (ap (λ u. error_behind u.note u.valid) c.unit.view_is)
    (stops_in _ _ _ _ r c.from_residual.ensures.0 c.in_err-put_error_behind.ensures)

pub returns : goal.returns
returns g c =
    let o = g.O.Out.progress in
    let r = c.put_tail.result in
    subst (λ l. Puts (o c.args.out.now) (o c.put_tail.new.out) (l ++ tail_text c.args.unit.now) r)
    (ap (λ u. error_behind u.note u.valid) c.unit.view_is)
    (then_puts _ _ _ _ _ r c.in_ok-put_error_behind.ensures c.put_tail.ensures)
