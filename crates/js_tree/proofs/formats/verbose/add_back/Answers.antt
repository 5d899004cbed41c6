use Rattle.js_tree.proofs.WrittenRows.Gathering.{goes_behind, stays_gathered, stops_gathered}
use Rattle.js_tree.proofs.formats.verbose.add_back.Goals as goal

pub returns-in-Ok : goal.returns-in-Ok
returns-in-Ok g c =
    λ k i at.
    stays_gathered (g.O.Out.progress c.args.out.now) c.args.gathered.now.text.items c.put_back.new.out.text.items _
    (c.in-Ok.ensures k i at).0

pub returns-in_err-put_out-in-Err : goal.returns-in_err-put_out-in-Err
returns-in_err-put_out-in-Err g c =
    λ k i at.
    let o = g.O.Out.progress in
    let begun = c.in-Err.ensures k i at in
    stops_gathered (o c.args.out.now) (o c.put_out.new.out) c.len-before.result c.args.gathered.now.text.items
    c.put_out.new.self.text.items c.put_back.new.out.text.items begun.0 _ c.from_residual.result
    c.len-before.ensures begun.3 c.from_residual.ensures.0 c.in_err-put_out-in-Err.ensures.text

pub returns-in_ok-put_out-in-Err : goal.returns-in_ok-put_out-in-Err
returns-in_ok-put_out-in-Err g c =
    λ k i at.
    let o = g.O.Out.progress in
    let begun = c.in-Err.ensures k i at in
    goes_behind (o c.args.out.now) (o c.put_out.new.out) (o c.put_back-in-Err.new.out) c.len-before.result
    c.args.gathered.now.text.items c.put_out.new.self.text.items c.put_back.new.out.text.items begun.0 _
    c.put_back-in-Err.result c.len-before.ensures begun.3 c.in_ok-put_out-in-Err.ensures.empty
    c.in_ok-put_out-in-Err.ensures.text
    (c.put_back-in-Err.ensures k i at)
