use Rattle.std.proofs.Common.{[], ◌∷◌, sym, subst}
use Rattle.js_doc.specs.BytesOut.{Puts}
use Rattle.js_tree.proofs.Pieces.{then_puts, stops_in}
use Rattle.js_tree.specs.Rows.RelativeState.{part}
use Rattle.js_tree.proofs.rows.locations.put_part.Goals as goal

pub returns-in_err-put : goal.returns-in_err-put
returns-in_err-put g c =
    let o = g.O.Out.progress in
    let a = o c.args.out.now in
    let b = o c.put-2.new.self in
    let r = c.from_residual.result in
    subst (λ slash. Puts a b (part slash c.args.text.now) r) (sym c.if-not-slash.false)
    (stops_in a b (47 ∷ []) c.args.text.now r c.from_residual.ensures.0 c.in_err-put.ensures)

pub returns : goal.returns
returns g c =
    let o = g.O.Out.progress in
    let a = o c.args.out.now in
    let b = o c.put-2.new.self in
    let d = o c.put-3.new.self in
    let r = c.put-3.result in
    subst (λ slash. Puts a d (part slash c.args.text.now) r) (sym c.if-not-slash.false)
    (then_puts a b d (47 ∷ []) c.args.text.now r c.in_ok-put.ensures c.put-3.ensures)
