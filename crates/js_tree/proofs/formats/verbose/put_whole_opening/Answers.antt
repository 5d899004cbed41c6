use Rattle.std.proofs.Common.{codes, refl, subst}
use Rattle.json.specs.Print.{escape}
use Rattle.js_doc.specs.BytesOut.{Goes, Stops, Puts}
use Rattle.js_tree.proofs.Pieces.{then_puts, stops_in}
use Rattle.js_tree.specs.Rows.RelativeState.{absolute_part}
use Rattle.js_tree.proofs.WrittenRows.QuotedParts.{opening_in_parts}
use Rattle.js_tree.proofs.formats.verbose.put_whole_opening.Goals as goal

pub returns-in_err-put : goal.returns-in_err-put
returns-in_err-put g c =
    λ absolute is.
    let o = g.O.Out.progress in
    subst (λ l. Puts (o c.args.out.now) (o c.put.new.self) l c.from_residual.result)
    (opening_in_parts c.args.later c.args.row.now.schema.now (absolute_part c.args.row.now) absolute is)
    (stops_in _ _ _ _ _ c.from_residual.ensures.0 (subst (λ l. Stops (o c.args.out.now) (o c.put.new.self) l)
    (c.from_comma.ensures (codes "{\"absoluteKeywordLocation\":\"") refl) c.in_err-put.ensures))

pub returns-in_err-put_escaped : goal.returns-in_err-put_escaped
returns-in_err-put_escaped g c =
    λ absolute is.
    let o = g.O.Out.progress in
    let begun = subst (λ l. Goes (o c.args.out.now) (o c.put.new.self) l)
    (c.from_comma.ensures (codes "{\"absoluteKeywordLocation\":\"") refl) c.in_ok-put.ensures in
    let escaped = subst (λ t. Stops (o c.put.new.self) (o c.put_escaped.new.out) (escape t)) c.as_bytes.ensures.value
    c.in_err-put_escaped.ensures in
    subst (λ l. Puts (o c.args.out.now) (o c.put_escaped.new.out) l c.from_residual-in_err-put_escaped.result)
    (opening_in_parts c.args.later c.args.row.now.schema.now (absolute_part c.args.row.now) absolute is)
    (then_puts _ _ _ _ _ _ begun (stops_in _ _ _ _ _ c.from_residual-in_err-put_escaped.ensures.0 escaped))

pub returns : goal.returns
returns g c =
    λ absolute is.
    let o = g.O.Out.progress in
    let begun = subst (λ l. Goes (o c.args.out.now) (o c.put.new.self) l)
    (c.from_comma.ensures (codes "{\"absoluteKeywordLocation\":\"") refl) c.in_ok-put.ensures in
    subst (λ l. Puts (o c.args.out.now) (o c.put_part.new.out) l c.put_part.result)
    (opening_in_parts c.args.later c.args.row.now.schema.now (absolute_part c.args.row.now) absolute is)
    (then_puts _ _ _ _ _ _ begun
    (then_puts _ _ _ _ _ _ (subst (λ t. Goes (o c.put.new.self) (o c.put_escaped.new.out) (escape t))
    c.as_bytes.ensures.value c.in_ok-put_escaped.ensures) c.put_part.ensures))
