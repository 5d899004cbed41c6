use Rattle.std.proofs.Common.{◌∷◌, ◌++◌, ◌∙◌, append_assoc, subst}
use Rattle.json.specs.Print.{escape}
use Rattle.js_doc.specs.BytesOut.{Goes, Puts, Stops}
use Rattle.js_tree.specs.NodeText.{valid_text}
use Rattle.js_tree.proofs.Pieces.{then_puts, stops_in}
use Rattle.js_tree.specs.Rows.Locations.{keyword_start}
use Rattle.js_tree.proofs.rows.locations.Locations.put_from.Goals as goal

pub returns-in_err-put : goal.returns-in_err-put
returns-in_err-put g c =
    λ k i at.
    let o = g.O.Out.progress in
    stops_in (o c.args.out.now) (o c.put.new.self) c.args.instance.now (keyword_start ++ (escape k ++ 34
    ∷ valid_text c.args.valid)) c.from_residual.result c.from_residual.ensures.0 c.in_err-put.ensures

pub returns-in_err-put-2 : goal.returns-in_err-put-2
returns-in_err-put-2 g c =
    λ k i at.
    let o = g.O.Out.progress in
    let a = o c.args.out.now in
    let b = o c.put.new.self in
    let d = o c.put-2.new.self in
    let last = 34 ∷ valid_text c.args.valid in
    let r = c.from_residual-in_err-put-2.result in
    let at_once = stops_in b d (keyword_start ++ escape k) last r c.from_residual-in_err-put-2.ensures.0
    (subst (Stops b d) (c.as_slice.ensures.value ∙ at.keyword_is) c.in_err-put-2.ensures) in
    then_puts a b d c.args.instance.now (keyword_start ++ (escape k ++ last)) r c.in_ok-put.ensures
    (subst (λ l. Puts b d l r) (append_assoc keyword_start (escape k) last) at_once)

pub returns : goal.returns
returns g c =
    λ k i at.
    let o = g.O.Out.progress in
    let a = o c.args.out.now in
    let b = o c.put.new.self in
    let d = o c.put-2.new.self in
    let z = o c.put_last.new.out in
    let last = 34 ∷ valid_text c.args.valid in
    let r = c.put_last.result in
    let at_once = then_puts b d z (keyword_start ++ escape k) last r
    (subst (Goes b d) (c.as_slice.ensures.value ∙ at.keyword_is) c.in_ok-put-2.ensures) c.put_last.ensures in
    then_puts a b z c.args.instance.now (keyword_start ++ (escape k ++ last)) r c.in_ok-put.ensures
    (subst (λ l. Puts b z l r) (append_assoc keyword_start (escape k) last) at_once)
