use Rattle.std.proofs.Common.{subst}
use Rattle.js_doc.specs.BytesOut.{Puts}
use Rattle.js_tree.proofs.WrittenRows.Gathering.{rest_goes, stopped_before}
use Rattle.js_tree.proofs.formats.writer.Writer.put_unit.Goals as goal

pub returns-in_err-add_start-clause-text : goal.returns-in_err-add_start-clause-text
returns-in_err-add_start-clause-text g c =
    λ k a i at abs.
    let o = g.O.Out.progress in
    stopped_before (o c.args.out.now) (o c.add_start.new.out) c.clear.new.self.text.items _ c.from_residual.result
    c.clear.ensures c.from_residual.ensures.0 (c.in_err-add_start.ensures.text k a i at abs)

pub returns-clause-text : goal.returns-clause-text
returns-clause-text g c =
    λ k a i at abs.
    let o = g.O.Out.progress in
    let r = c.put.result in
    let rest = subst (λ l. Puts (o c.add_start.new.out) (o c.put.new.self) l r) c.as_slice.ensures c.put.ensures in
    rest_goes (o c.args.out.now) (o c.add_start.new.out) (o c.put.new.self) c.clear.new.self.text.items
    c.add_start.new.self.gathered.text.items _ r c.clear.ensures (c.in_ok-add_start.ensures.text k a i at abs) rest
