use Rattle.std.proofs.Common.{ap, refl, subst}
use Rattle.js_doc.specs.BytesOut.{Puts}
use Rattle.js_tree.specs.Seen.{note_of}
use Rattle.js_tree.proofs.Pieces.{then_puts, stops_in}
use Rattle.js_tree.proofs.NodeTexts.{leaf_text_is}
use Rattle.js_tree.proofs.formats.node_text.put_leaf.Goals as goal

pub returns-in_err-put_head : goal.returns-in_err-put_head
returns-in_err-put_head g c =
    let o = g.O.Out.progress in
    let r = c.from_residual.result in
    subst (λ l. Puts (o c.args.out.now) (o c.put_head.new.out) l r) (leaf_text_is c.args.unit.now _ refl)
    (stops_in _ _ _ _ r c.from_residual.ensures.0 c.in_err-put_head.ensures)

pub returns-in_err-put_error : goal.returns-in_err-put_error
returns-in_err-put_error g c =
    let o = g.O.Out.progress in
    let r = c.from_residual-in_err-put_error.result in
    subst (λ l. Puts (o c.args.out.now) (o c.put_error.new.out) l r)
    (leaf_text_is c.args.unit.now (note_of c.unit.inside.note) (ap (λ u. u.note) c.unit.view_is))
    (then_puts _ _ _ _ _ r c.in_ok-put_head.ensures
    (stops_in _ _ _ _ r c.from_residual-in_err-put_error.ensures.0 c.in_err-put_error.ensures))

pub returns : goal.returns
returns g c =
    let o = g.O.Out.progress in
    let r = c.put_tail.result in
    subst (λ l. Puts (o c.args.out.now) (o c.put_tail.new.out) l r)
    (leaf_text_is c.args.unit.now (note_of c.unit.inside.note) (ap (λ u. u.note) c.unit.view_is))
    (then_puts _ _ _ _ _ r c.in_ok-put_head.ensures
    (then_puts _ _ _ _ _ r c.in_ok-put_error.ensures c.put_tail.ensures))
