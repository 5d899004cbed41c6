use Rattle.std.proofs.Common.{codes}
use Rattle.js_tree.specs.Seen.{note_of}
use Rattle.js_tree.specs.NodeText.{error_part}
use Rattle.js_tree.proofs.Pieces.{stops_in, then_puts}
use Rattle.js_tree.proofs.formats.node_text.put_list_start.Goals as goal

pub returns-in_err-put_error : goal.returns-in_err-put_error
returns-in_err-put_error g c =
    let o = g.O.Out.progress in
    rw c.if-valid.false (stops_in (o c.args.out.now) (o c.put_error.new.out) (error_part (note_of c.args.note.now))
    (codes ",\"errors\":[") c.from_residual.result c.from_residual.ensures.0 c.in_err-put_error.ensures)

pub returns : goal.returns
returns g c =
    let o = g.O.Out.progress in
    rw c.if-valid.false (then_puts (o c.args.out.now) (o c.put_error.new.out) (o c.put-2.new.self) (error_part
    (note_of c.args.note.now)) (codes ",\"errors\":[") c.put-2.result c.in_ok-put_error.ensures c.put-2.ensures)
