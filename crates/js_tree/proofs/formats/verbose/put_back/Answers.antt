use Rattle.std.proofs.Common.{◌∷◌, [], ◌++◌}
use Rattle.js_tree.specs.Seen.{note_of}
use Rattle.js_tree.specs.NodeText.{end_text}
use Rattle.js_tree.specs.NodeText.{error_behind}
use Rattle.js_tree.proofs.Pieces.{stops_in, then_puts}
use Rattle.js_tree.proofs.formats.verbose.put_back.Goals as goal

pub returns-in_err-put : goal.returns-in_err-put
returns-in_err-put g c =
    λ k i at.
    let o = g.O.Out.progress in
    let x = c.args.row.now in
    stops_in (o c.args.out.now) (o c.put.new.self) (93 ∷ []) (error_behind (note_of x.note) x.valid
    ++ end_text i k x.valid) c.from_residual.result c.from_residual.ensures.0 c.in_err-put.ensures

pub returns-in_err-put_error_behind : goal.returns-in_err-put_error_behind
returns-in_err-put_error_behind g c =
    λ k i at.
    let o = g.O.Out.progress in
    let x = c.args.row.now in
    let p2 = error_behind (note_of x.note) x.valid in
    let p3 = end_text i k x.valid in
    let r = c.from_residual-in_err-put_error_behind.result in
    then_puts (o c.args.out.now) (o c.put.new.self) (o c.put_error_behind.new.out) (93 ∷ [])
    (p2 ++ p3) r c.in_ok-put.ensures
    (stops_in (o c.put.new.self) (o c.put_error_behind.new.out) p2 p3 r
    c.from_residual-in_err-put_error_behind.ensures.0 c.in_err-put_error_behind.ensures)

pub returns : goal.returns
returns g c =
    λ k i at.
    let o = g.O.Out.progress in
    let x = c.args.row.now in
    let p2 = error_behind (note_of x.note) x.valid in
    let p3 = end_text i k x.valid in
    let r = c.put_end.result in
    then_puts (o c.args.out.now) (o c.put.new.self) (o c.put_end.new.out) (93 ∷ []) (p2 ++ p3) r c.in_ok-put.ensures
    (then_puts (o c.put.new.self) (o c.put_error_behind.new.out) (o c.put_end.new.out) p2 p3 r
    c.in_ok-put_error_behind.ensures (c.put_end.ensures k i at))
