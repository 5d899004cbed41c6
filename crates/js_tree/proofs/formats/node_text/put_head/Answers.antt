use Rattle.std.proofs.Common.{◌∷◌, ◌++◌, ap, codes, subst, ◌∙◌}
use Rattle.json.specs.Print.{escape}
use Rattle.js_doc.specs.BytesOut.{Goes, Puts, Stops}
use Rattle.js_tree.specs.NodeText.{annotation_part}
use Rattle.js_tree.proofs.Pieces.{then_puts, stops_in}
use Rattle.js_tree.proofs.QuotedParts.{quoted_then}
use Rattle.js_tree.proofs.formats.node_text.put_head.Goals as goal

pub returns-in_err-put : goal.returns-in_err-put
returns-in_err-put g c =
    let o = g.O.Out.progress in
    let r = c.from_residual.result in
    let u = c.args.unit.now in
    subst (λ l. Puts (o c.args.out.now) (o c.put.new.self) l r)
    (ap (λ l. codes "{\"absoluteKeywordLocation\":" ++ l) (quoted_then u.absolute (annotation_part u.note)))
    (stops_in _ _ (codes "{\"absoluteKeywordLocation\":\"") (escape u.absolute ++ 34 ∷ annotation_part u.note) r
    c.from_residual.ensures.0 c.in_err-put.ensures)

pub returns-in_err-put_escaped : goal.returns-in_err-put_escaped
returns-in_err-put_escaped g c =
    let o = g.O.Out.progress in let r = c.from_residual-in_err-put_escaped.result in let u = c.args.unit.now in
    let there = c.as_bytes.ensures.value ∙ (c.as_str.ensures ∙ ap (λ u. u.absolute) c.unit.view_is) in
    subst (λ l. Puts (o c.args.out.now) (o c.put_escaped.new.out) l r)
    (ap (λ l. codes "{\"absoluteKeywordLocation\":" ++ l) (quoted_then u.absolute (annotation_part u.note)))
    (then_puts _ _ _ (codes "{\"absoluteKeywordLocation\":\"")
    (escape u.absolute ++ 34 ∷ annotation_part u.note) r c.in_ok-put.ensures
    (stops_in _ _ (escape u.absolute) (34 ∷ annotation_part u.note) r c.from_residual-in_err-put_escaped.ensures.0
    (subst (λ t. Stops (o c.put.new.self) (o c.put_escaped.new.out) (escape t)) there
    c.in_err-put_escaped.ensures)))

pub returns : goal.returns
returns g c =
    let o = g.O.Out.progress in let r = c.put_closed_annotation.result in let u = c.args.unit.now in
    let there = c.as_bytes.ensures.value ∙ (c.as_str.ensures ∙ ap (λ u. u.absolute) c.unit.view_is) in
    subst (λ l. Puts (o c.args.out.now) (o c.put_closed_annotation.new.out) l r)
    (ap (λ l. codes "{\"absoluteKeywordLocation\":" ++ l) (quoted_then u.absolute (annotation_part u.note)))
    (then_puts _ _ _ (codes "{\"absoluteKeywordLocation\":\"")
    (escape u.absolute ++ 34 ∷ annotation_part u.note) r c.in_ok-put.ensures
    (then_puts _ _ _ (escape u.absolute) (34 ∷ annotation_part u.note) r
    (subst (λ t. Goes (o c.put.new.self) (o c.put_escaped.new.out) (escape t)) there c.in_ok-put_escaped.ensures)
    (subst (λ n. Puts (o c.put_escaped.new.out) (o c.put_closed_annotation.new.out) (34 ∷ annotation_part n) r)
    (ap (λ u. u.note) c.unit.view_is) c.put_closed_annotation.ensures)))
