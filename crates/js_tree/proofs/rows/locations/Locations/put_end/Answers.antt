use Rattle.std.proofs.Common.{◌∷◌, ◌++◌, ap, drop, subst, ◌∙◌}
use Rattle.json.specs.Print.{escape}
use Rattle.js_tree.specs.NodeText.{valid_text}
use Rattle.js_doc.specs.BytesOut.{Puts}
use Rattle.js_tree.specs.Rows.Locations.{keyword_start}
use Rattle.js_tree.proofs.WrittenRows.QuotedParts.{behind_mark}
use Rattle.js_tree.proofs.rows.locations.Locations.put_end.Goals as goal

pub returns : goal.returns
returns g c =
    λ k i at.
    let o = g.O.Out.progress in
    let rest = keyword_start ++ (escape k ++ 34 ∷ valid_text c.args.valid) in
    let found = c.args.self.now.instance.items in
    let is = ap (λ l. l ++ rest) (c.behind.ensures ∙ ap (drop 1) c.as_slice.ensures.value)
    ∙ behind_mark found i k c.args.valid at.instance_is in
    subst (λ l. Puts (o c.args.out.now) (o c.put_from.new.out) l c.put_from.result) is (c.put_from.ensures k i at)
