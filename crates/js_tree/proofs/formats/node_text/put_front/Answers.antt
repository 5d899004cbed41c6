use Rattle.std.proofs.Common.{◌++◌, ap, subst}
use Rattle.js_doc.specs.BytesOut.{Puts}
use Rattle.js_tree.specs.NodeText.{children_start, head_text}
use Rattle.js_tree.proofs.Pieces.{then_puts, stops_in}
use Rattle.js_tree.proofs.formats.node_text.put_front.Goals as goal

pub returns-in_err-put_head : goal.returns-in_err-put_head
returns-in_err-put_head g c =
    stops_in _ _ _ _ c.from_residual.result c.from_residual.ensures.0 c.in_err-put_head.ensures

pub returns : goal.returns
returns g c =
    let o = g.O.Out.progress in
    let r = c.put_list_start.result in
    subst (λ l. Puts (o c.args.out.now) (o c.put_list_start.new.out) (head_text c.args.unit.now ++ l) r)
    (ap (λ u. children_start u.note u.valid) c.unit.view_is)
    (then_puts _ _ _ _ _ r c.in_ok-put_head.ensures c.put_list_start.ensures)
