use Rattle.std.proofs.Common.{subst}
use Rattle.js_doc.specs.BytesOut.{Puts}
use Rattle.js_tree.specs.Seen.{note_of}
use Rattle.js_tree.specs.NodeText.{end_text}
use Rattle.js_tree.proofs.WrittenRows.QuotedParts.{rest_of_error, rest_of_other}
use Rattle.js_tree.proofs.rows.locations.Locations.put_rest.Goals as goal

pub returns-in-Some : goal.returns-in-Some
returns-in-Some g c =
    λ k i at.
    let o = g.O.Out.progress in
    subst (λ l. Puts (o c.args.out.now) (o c.put_error_rest.new.out) l c.put_error_rest.result)
    (rest_of_error (note_of c.args.note.now) c.in-Some.reason.now (end_text i k c.args.valid) c.in-Some.ensures)
    (c.put_error_rest.ensures k i at)

pub returns-in-None : goal.returns-in-None
returns-in-None g c =
    λ k i at.
    let o = g.O.Out.progress in
    subst (λ l. Puts (o c.args.out.now) (o c.put_annotation_rest.new.out) l c.put_annotation_rest.result) (rest_of_other
    (note_of c.args.note.now) (end_text i k c.args.valid) c.in-None.ensures) (c.put_annotation_rest.ensures k i at)
