use Rattle.std.proofs.Common.{subst, ◌∙◌}
use Rattle.js_doc.specs.BytesOut.{Puts}
use Rattle.js_tree.proofs.WrittenRows.QuotedParts.{from_mark}
use Rattle.js_tree.proofs.rows.locations.Locations.put_closing.Goals as goal

pub returns : goal.returns
returns g c =
    λ k i at.
    let o = g.O.Out.progress in
    subst (λ l. Puts (o c.args.out.now) (o c.put_from.new.out) l c.put_from.result) (from_mark c.as_slice.result.now i k
    c.args.valid (c.as_slice.ensures.value ∙ at.instance_is)) (c.put_from.ensures k i at)
