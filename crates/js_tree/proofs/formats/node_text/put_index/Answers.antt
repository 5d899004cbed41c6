use Rattle.std.proofs.Common.{◌++◌, subst}
use Rattle.std.specs.Fmt.{signed_decimal}
use Rattle.js_doc.specs.BytesOut.{Puts}
use Rattle.js_tree.proofs.Pieces.{then_puts, stops_in}
use Rattle.js_tree.proofs.formats.node_text.put_index.Goals as goal

pub returns-in_err-put : goal.returns-in_err-put
returns-in_err-put g c =
    let o = g.O.Out.progress in
    stops_in (o c.args.out.now) (o c.put.new.self) c.args.start.now _ c.from_residual.result
    c.from_residual.ensures.0 c.in_err-put.ensures

pub returns : goal.returns
returns g c =
    let o = g.O.Out.progress in
    subst (λ z. Puts (o c.args.out.now) (o c.put_number.new.out) (c.args.start.now ++ signed_decimal z)
    c.put_number.result) c.from_u64.ensures
    (then_puts (o c.args.out.now) (o c.put.new.self) (o c.put_number.new.out) c.args.start.now
    (signed_decimal c.from_u64.result) c.put_number.result c.in_ok-put.ensures c.put_number.ensures)
