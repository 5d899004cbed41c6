use Rattle.std.proofs.Common.{[], ◌∷◌, ◌++◌}
use Rattle.js_doc.specs.Compact.{compact}
use Rattle.js_doc.proofs.BytesGone.{starts, goes_on, puts_err, puts_last}
use Rattle.js_output.proofs.writing.put_line.Goals as goal

pub returns-in_err-put_prepared : goal.returns-in_err-put_prepared
returns-in_err-put_prepared g c = λ valid value is.
    let o = g.O.Out.progress in
    let text = compact value in
    puts_err (o c.args.out.now) (o c.args.out.now) (o c.put_prepared.new.out) text (10 ∷ []) (text ++ 10 ∷ [])
    c.from_residual.result c.from_residual.ensures.0 (starts (o c.args.out.now) (text ++ 10 ∷ []))
    (c.in_err-put_prepared.ensures valid value is)

pub returns : goal.returns
returns g c = λ valid value is.
    let o = g.O.Out.progress in
    let text = compact value in
    let all = text ++ 10 ∷ [] in
    puts_last (o c.args.out.now) (o c.put_prepared.new.out) (o c.put.new.self) (10 ∷ []) all c.put.result
    (goes_on (o c.args.out.now) (o c.args.out.now) (o c.put_prepared.new.out) text (10 ∷ []) all
    (starts (o c.args.out.now) all) (c.in_ok-put_prepared.ensures valid value is)) c.put.ensures
