use Rattle.std.proofs.Common.{◌∷◌, ◌++◌, codes, subst}
use Rattle.json.specs.Print.{escape}
use Rattle.js_doc.specs.BytesOut.{Goes, Stops}
use Rattle.js_tree.specs.NodeText.{end_text}
use Rattle.js_tree.proofs.Pieces.{then_puts, stops_in}
use Rattle.js_tree.proofs.rows.locations.Locations.put_error_rest.Goals as goal

pub returns-in_err-put : goal.returns-in_err-put
returns-in_err-put g c =
    λ k i at.
    let o = g.O.Out.progress in
    stops_in (o c.args.out.now) (o c.put.new.self) (codes "\",\"error\":\"") (escape c.args.reason.now ++ 34
    ∷ end_text i k c.args.valid) c.from_residual.result c.from_residual.ensures.0 c.in_err-put.ensures

pub returns-in_err-put_escaped : goal.returns-in_err-put_escaped
returns-in_err-put_escaped g c =
    λ k i at.
    let o = g.O.Out.progress in
    let p2 = escape c.args.reason.now in
    let p3 = 34 ∷ end_text i k c.args.valid in
    let r = c.from_residual-in_err-put_escaped.result in
    then_puts (o c.args.out.now) (o c.put.new.self) (o c.put_escaped.new.out) (codes "\",\"error\":\"")
    (p2 ++ p3) r c.in_ok-put.ensures
    (stops_in (o c.put.new.self) (o c.put_escaped.new.out) p2 p3 r c.from_residual-in_err-put_escaped.ensures.0
    (subst (λ t. Stops (o c.put.new.self) (o c.put_escaped.new.out) (escape t)) c.as_bytes.ensures.value
    c.in_err-put_escaped.ensures))

pub returns : goal.returns
returns g c =
    λ k i at.
    let o = g.O.Out.progress in
    let p2 = escape c.args.reason.now in
    let p3 = 34 ∷ end_text i k c.args.valid in
    let r = c.put_closing.result in
    then_puts (o c.args.out.now) (o c.put.new.self) (o c.put_closing.new.out) (codes "\",\"error\":\"")
    (p2 ++ p3) r c.in_ok-put.ensures
    (then_puts (o c.put.new.self) (o c.put_escaped.new.out) (o c.put_closing.new.out) p2 p3 r (subst (λ t. Goes
    (o c.put.new.self) (o c.put_escaped.new.out) (escape t)) c.as_bytes.ensures.value c.in_ok-put_escaped.ensures)
    (c.put_closing.ensures k i at))
