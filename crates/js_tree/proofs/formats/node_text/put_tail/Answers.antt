use Rattle.std.proofs.Common.{◌++◌, ap, codes, subst, ◌∙◌}
use Rattle.js_doc.specs.BytesOut.{Puts}
use Rattle.js_doc.specs.Compact.{quoted}
use Rattle.js_tree.specs.NodeText.{end_text, valid_text}
use Rattle.js_tree.proofs.Pieces.{then_puts, stops_in}
use Rattle.js_tree.proofs.formats.node_text.put_tail.Goals as goal

pub returns-in_err-put_member : goal.returns-in_err-put_member
returns-in_err-put_member g c =
    let o = g.O.Out.progress in
    let u = c.args.unit.now in
    let r = c.from_residual.result in
    let i = c.unit.inside in
    subst (λ l. Puts (o c.args.out.now) (o c.put_member.new.out) l r)
    (ap (λ t. end_text t u.keyword u.valid) (c.as_str.ensures ∙ ap (λ u. u.instance) c.unit.view_is))
    (stops_in _ _ (codes ",\"instanceLocation\":" ++ quoted c.as_str.result.now) (codes ",\"keywordLocation\":"
    ++ (quoted u.keyword ++ valid_text u.valid)) r c.from_residual.ensures.0 c.in_err-put_member.ensures)

pub returns-in_err-put_member-2 : goal.returns-in_err-put_member-2
returns-in_err-put_member-2 g c =
    let o = g.O.Out.progress in
    let u = c.args.unit.now in
    let r = c.from_residual-in_err-put_member-2.result in
    let i = c.unit.inside in
    subst (λ l. Puts (o c.args.out.now) (o c.put_member-2.new.out) l r)
    (ap (λ t. end_text t c.as_str-2.result.now u.valid) (c.as_str.ensures ∙ ap (λ u. u.instance) c.unit.view_is)
    ∙ ap (λ t. end_text u.instance t u.valid) (c.as_str-2.ensures ∙ ap (λ u. u.keyword) c.unit.view_is))
    (then_puts _ _ _ (codes ",\"instanceLocation\":" ++ quoted c.as_str.result.now) (codes ",\"keywordLocation\":"
    ++ (quoted c.as_str-2.result.now ++ valid_text u.valid)) r c.in_ok-put_member.ensures
    (stops_in _ _ (codes ",\"keywordLocation\":" ++ quoted c.as_str-2.result.now) (valid_text u.valid) r
    c.from_residual-in_err-put_member-2.ensures.0 c.in_err-put_member-2.ensures))

pub returns : goal.returns
returns g c =
    let o = g.O.Out.progress in
    let u = c.args.unit.now in
    let r = c.put_valid.result in
    let i = c.unit.inside in
    subst (λ l. Puts (o c.args.out.now) (o c.put_valid.new.out) l r)
    (ap (λ t. end_text t c.as_str-2.result.now i.valid) (c.as_str.ensures ∙ ap (λ u. u.instance) c.unit.view_is)
    ∙ (ap (λ t. end_text u.instance t i.valid) (c.as_str-2.ensures ∙ ap (λ u. u.keyword) c.unit.view_is)
    ∙ ap (λ w. end_text u.instance u.keyword w.valid) c.unit.view_is))
    (then_puts _ _ _ (codes ",\"instanceLocation\":" ++ quoted c.as_str.result.now) (codes ",\"keywordLocation\":"
    ++ (quoted c.as_str-2.result.now ++ valid_text i.valid)) r c.in_ok-put_member.ensures
    (then_puts _ _ _ (codes ",\"keywordLocation\":" ++ quoted c.as_str-2.result.now) (valid_text i.valid) r
    c.in_ok-put_member-2.ensures c.put_valid.ensures))
