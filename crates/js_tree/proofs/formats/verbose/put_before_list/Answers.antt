use Rattle.std.proofs.Common.{◌∷◌, sym}
use Rattle.js_tree.specs.Seen.{note_of}
use Rattle.js_tree.specs.NodeText.{annotation_part}
use Rattle.js_tree.specs.NodeText.{children_start}
use Rattle.js_tree.proofs.Pieces.{stops_in, then_puts}
use Rattle.js_tree.proofs.WrittenRows.SilentNodes.{silent_before_list}
use Rattle.js_tree.proofs.formats.verbose.put_before_list.Goals as goal

pub returns-in_err-put_closed_annotation : goal.returns-in_err-put_closed_annotation
returns-in_err-put_closed_annotation g c =
    let o = g.O.Out.progress in
    let n = note_of c.args.note.now in
    stops_in (o c.args.out.now) (o c.put_closed_annotation.new.out) (34 ∷ annotation_part n) (children_start n
    c.args.valid) c.from_residual.result c.from_residual.ensures.0 c.in_err-put_closed_annotation.ensures

pub returns-then-is_some : goal.returns-then-is_some
returns-then-is_some g c =
    let o = g.O.Out.progress in
    let n = note_of c.args.note.now in
    then_puts (o c.args.out.now) (o c.put_closed_annotation.new.out) (o c.put_list_start.new.out)
    (34 ∷ annotation_part n) (children_start n c.args.valid) c.put_list_start.result
    c.in_ok-put_closed_annotation.ensures c.put_list_start.ensures

pub returns-else-valid : goal.returns-else-valid
returns-else-valid g c =
    let o = g.O.Out.progress in
    silent_before_list (o c.args.out.now) (o c.put-else-valid.new.self) (note_of c.args.note.now) c.args.valid
    c.put-else-valid.result (sym c.if-is_some.ensures) (rw c.if-valid.false c.put-else-valid.ensures)
