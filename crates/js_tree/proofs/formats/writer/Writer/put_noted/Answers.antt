use Rattle.std.proofs.Common.{[], true, sym, subst}
use Rattle.js_tree.specs.Form.{node_value}
use Rattle.js_tree.specs.code.Listing.{AllListed, AreListed}
use Rattle.js_tree.specs.code.RelativeText.{unit_there}
use Rattle.js_tree.proofs.WrittenRows.ListedRows.{its_note, listed_err, one_listed, one_stops}
use Rattle.js_tree.proofs.formats.writer.Writer.put_noted.Goals as goal

pub returns-in_err-put_unit-clause-listed : goal.returns-in_err-put_unit-clause-listed
returns-in_err-put_unit-clause-listed g c =
    λ k a i at abs.
    let o = g.O.Out.progress in
    let is = sym (its_note (unit_there c.args.row.now k a i) _ c.is_some.ensures c.if-not-is_some.false) in
    subst (λ vs. AreListed (o c.args.out.now) (o c.put_unit.new.out) c.args.later vs c.from_residual.result) is
    (listed_err _ _ _ _ _ c.from_residual.ensures.0
    (one_stops (o c.args.out.now) (o c.put_unit.new.out) _ (node_value (unit_there c.args.row.now k a i) [])
    (c.in_err-put_unit.ensures.text k a i at abs)))

pub returns-clause-listed : goal.returns-clause-listed
returns-clause-listed g c =
    λ k a i at abs.
    let o = g.O.Out.progress in
    let is = sym (its_note (unit_there c.args.row.now k a i) _ c.is_some.ensures c.if-not-is_some.false) in
    subst (λ vs. AllListed (o c.args.out.now) (o c.put_unit.new.out) c.args.later vs true) is
    (one_listed _ _ _ (node_value (unit_there c.args.row.now k a i) []) (c.in_ok-put_unit.ensures.text k a i at abs))
