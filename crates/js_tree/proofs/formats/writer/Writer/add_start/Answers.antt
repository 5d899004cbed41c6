use Rattle.js_tree.proofs.RowsOfTrees.EscapedRows.{still_at}
use Rattle.js_tree.proofs.WrittenRows.Gathering.{goes_behind, stays_gathered, stops_gathered}
use Rattle.js_tree.proofs.formats.writer.Writer.add_start.Goals as goal

pub returns-in-Ok-clause-text : goal.returns-in-Ok-clause-text
returns-in-Ok-clause-text g c =
    λ k a i at abs.
    stays_gathered (g.O.Out.progress c.args.out.now) c.args.self.now.gathered.text.items c.put_start.new.out.text.items
    _ (c.in-Ok.ensures.text k a i at abs).0

pub returns-in_err-put_out-in-Err-clause-text : goal.returns-in_err-put_out-in-Err-clause-text
returns-in_err-put_out-in-Err-clause-text g c =
    λ k a i at abs.
    let o = g.O.Out.progress in
    let begun = c.in-Err.ensures.text k a i at abs in
    stops_gathered (o c.args.out.now) (o c.put_out.new.out) c.len-before.result c.args.self.now.gathered.text.items
    c.put_out.new.self.text.items c.put_start.new.out.text.items begun.0 _ c.from_residual.result
    c.len-before.ensures begun.3 c.from_residual.ensures.0 c.in_err-put_out-in-Err.ensures.text

pub returns-in_ok-put_out-in-Err-clause-text : goal.returns-in_ok-put_out-in-Err-clause-text
returns-in_ok-put_out-in-Err-clause-text g c =
    λ k a i at abs.
    let o = g.O.Out.progress in
    let begun = c.in-Err.ensures.text k a i at abs in
    goes_behind (o c.args.out.now) (o c.put_out.new.out) (o c.put_start-in-Err.new.out) c.len-before.result
    c.args.self.now.gathered.text.items c.put_out.new.self.text.items c.put_start.new.out.text.items begun.0 _
    c.put_start-in-Err.result c.len-before.ensures begun.3 c.in_ok-put_out-in-Err.ensures.empty
    c.in_ok-put_out-in-Err.ensures.text
    (c.put_start-in-Err.ensures.text k a i
    (still_at c.args.self.now.locations c.put_start.new.locations k i at c.in-Err.ensures.back) abs)
