use Rattle.std.proofs.Common.{subst}
use Rattle.js_doc.specs.BytesOut.{Puts}
use Rattle.js_tree.proofs.Pieces.{then_puts, stops_in}
use Rattle.js_tree.proofs.WrittenRows.OpeningKept.{front_then}
use Rattle.js_tree.proofs.rows.locations.Locations.put_opening.Goals as goal

pub returns-in_err-put_kept-clause-text : goal.returns-in_err-put_kept-clause-text
returns-in_err-put_kept-clause-text g c =
    λ absolute is.
    let o = g.O.Out.progress in
    subst (λ l. Puts (o c.args.out.now) (o c.put_kept.new.out) l c.from_residual.result)
    (front_then c.args.later c.args.row.now.absolute_slash _ _ _ c.args.row.now.absolute.now absolute
    (c.keeps_schema.ensures c.if-not-keeps_schema.false) c.as_bytes.ensures.value is)
    (stops_in _ _ _ _ _ c.from_residual.ensures.0 c.in_err-put_kept.ensures)

pub returns-clause-text : goal.returns-clause-text
returns-clause-text g c =
    λ absolute is.
    let o = g.O.Out.progress in
    subst (λ l. Puts (o c.args.out.now) (o c.put.new.self) l c.put.result)
    (front_then c.args.later c.args.row.now.absolute_slash _ _ _ c.args.row.now.absolute.now absolute
    (c.keeps_schema.ensures c.if-not-keeps_schema.false) c.as_bytes.ensures.value is)
    (then_puts _ _ _ _ _ _ c.in_ok-put_kept.ensures c.put.ensures)
