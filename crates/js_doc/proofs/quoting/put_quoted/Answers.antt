use Rattle.std.proofs.Common.{[], ◌∷◌, ◌++◌}
use Rattle.json.specs.Print.{escape}
use Rattle.js_doc.specs.Compact.{quoted}
use Rattle.js_doc.proofs.BytesGone.{starts, goes_on, puts_err, stops_first, puts_last}
use Rattle.js_doc.proofs.quoting.put_quoted.Goals as goal

pub returns-in_err-put : goal.returns-in_err-put
returns-in_err-put g c =
    stops_first _ _ (34 ∷ []) (escape c.args.bytes.now ++ 34 ∷ []) _ c.from_residual.ensures.0 c.in_err-put.ensures

pub returns-in_err-put_escaped : goal.returns-in_err-put_escaped
returns-in_err-put_escaped g c =
    let bs = c.args.bytes.now in
    let o = g.O.Out.progress in
    let w = goes_on (o c.args.out.now) (o c.args.out.now) (o c.put.new.self) (34 ∷ []) (escape bs ++ 34 ∷ [])
    (quoted bs) (starts (o c.args.out.now) (quoted bs)) c.in_ok-put.ensures in
    puts_err (o c.args.out.now) (o c.put.new.self) (o c.put_escaped.new.out) (escape bs) (34 ∷ []) (quoted bs)
    c.from_residual-in_err-put_escaped.result c.from_residual-in_err-put_escaped.ensures.0 w
    c.in_err-put_escaped.ensures

pub returns : goal.returns
returns g c =
    let bs = c.args.bytes.now in
    let o = g.O.Out.progress in
    let w = goes_on (o c.args.out.now) (o c.args.out.now) (o c.put.new.self) (34 ∷ []) (escape bs ++ 34 ∷ [])
    (quoted bs) (starts (o c.args.out.now) (quoted bs)) c.in_ok-put.ensures in
    let v = goes_on (o c.args.out.now) (o c.put.new.self) (o c.put_escaped.new.out) (escape bs) (34 ∷ []) (quoted bs) w
    c.in_ok-put_escaped.ensures in
    puts_last (o c.args.out.now) (o c.put_escaped.new.out) (o c.put-2.new.self) (34 ∷ []) (quoted bs)
    c.put-2.result v c.put-2.ensures
