use Rattle.js_doc.specs.Compact.{compact}
use Rattle.js_doc.specs.Seen.{value_of}
use Rattle.js_tree.proofs.Pieces.{then_puts, stops_in}
use Rattle.js_tree.proofs.formats.node_text.put_value.Goals as goal

pub returns-in_err-put : goal.returns-in_err-put
returns-in_err-put g c =
    let o = g.O.Out.progress in
    stops_in (o c.args.out.now) (o c.put.new.self) c.args.start.now (compact (value_of c.args.value.now))
    c.from_residual.result c.from_residual.ensures.0 c.in_err-put.ensures

pub returns : goal.returns
returns g c =
    let o = g.O.Out.progress in
    then_puts (o c.args.out.now) (o c.put.new.self) (o c.put_text.new.out) c.args.start.now
    (compact (value_of c.args.value.now)) c.put_text.result c.in_ok-put.ensures c.put_text.ensures
