use Rattle.std.proofs.Common.{subst, ◌∙◌}
use Rattle.js_doc.specs.BytesOut.{Puts}
use Rattle.js_tree.proofs.WrittenRows.OpeningKept.{written}
use Rattle.js_tree.proofs.rows.opening.Opening.put_kept.Goals as goal

pub returns : goal.returns
returns g c =
    let o = g.O.Out.progress in
    let kept = c.args.self.now in
    let cut = c.from_comma-text.result.now in
    let put = c.to_slash.result.now in
    subst (λ l. Puts (o c.args.out.now) (o c.put.new.self) l c.put.result)
    (written c.args.later c.args.slash kept.text.items cut put kept.shape
    (λ rest e. c.from_comma-text.ensures rest (c.as_slice.ensures.value ∙ e)) c.to_slash.ensures) c.put.ensures
