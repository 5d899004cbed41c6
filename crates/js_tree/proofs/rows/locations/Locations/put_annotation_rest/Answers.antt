use Rattle.std.proofs.Common.{◌∷◌}
use Rattle.js_tree.specs.Seen.{note_of}
use Rattle.js_tree.specs.NodeText.{annotation_part, end_text}
use Rattle.js_tree.proofs.Pieces.{then_puts, stops_in}
use Rattle.js_tree.proofs.rows.locations.Locations.put_annotation_rest.Goals as goal

pub returns-in_err-put_closed_annotation : goal.returns-in_err-put_closed_annotation
returns-in_err-put_closed_annotation g c =
    λ k i at.
    let o = g.O.Out.progress in
    stops_in (o c.args.out.now) (o c.put_closed_annotation.new.out) (34 ∷ annotation_part (note_of c.args.note.now))
    (end_text i k c.args.valid) c.from_residual.result c.from_residual.ensures.0
    c.in_err-put_closed_annotation.ensures

pub returns : goal.returns
returns g c =
    λ k i at.
    let o = g.O.Out.progress in
    then_puts (o c.args.out.now) (o c.put_closed_annotation.new.out) (o c.put_end.new.out)
    (34 ∷ annotation_part (note_of c.args.note.now)) (end_text i k c.args.valid) c.put_end.result
    c.in_ok-put_closed_annotation.ensures (c.put_end.ensures k i at)
