use Rattle.std.proofs.Common.{arith, ◌-◌, ap}
use Rattle.js_tree.specs.FlatState.{row_of}
use Rattle.js_tree.specs.Seen.{note_of}
use Rattle.js_tree.proofs.FlatFormCollected.{closes, closes_beyond}
use Rattle.js_tree.proofs.collecting.flat.FlatCollector.leave.Goals as goal

pub returns-then-number-count-clause-takes : goal.returns-then-number-count-clause-takes
returns-then-number-count-clause-takes c =
    let l = c.len-count.ensures in
    let rows_len = c.args.self.now.rows.ok in
    closes row_of c.args.self.now.rows.items c.args.self.now.numbers.items c.pop.new.self.items c.in-Some.number
    c.index_mut-row.result.now _ c.args.valid (note_of c.args.note) _ c.in-Some.ensures.items
    (omega (arith, l, rows_len, c.if-number-count.true)) (omega (arith, l, rows_len)) c.index_mut-row.ensures.value
    (ap (λ u. (u, c.len-count.result - c.in-Some.number)) c.close.ensures)

pub returns-else-number-count-clause-takes : goal.returns-else-number-count-clause-takes
returns-else-number-count-clause-takes c =
    let l = c.len-count.ensures in
    let rows_len = c.args.self.now.rows.ok in
    closes_beyond row_of c.args.self.now.rows.items c.args.self.now.numbers.items c.pop.new.self.items c.in-Some.number
    c.args.valid (note_of c.args.note) c.in-Some.ensures.items (omega (arith, l, rows_len, c.if-number-count.false))
