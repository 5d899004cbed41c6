use Rattle.std.proofs.Common.{◌-◌, ap, arith}
use Rattle.js_tree.specs.FlatState.{closed_row}
use Rattle.js_tree.specs.Seen.{note_of}
use Rattle.js_tree.specs.Rows.RelativeState.{relative_row}
use Rattle.js_tree.proofs.RowsOfTrees.RelativeRowsCollected.{closes, closes_beyond, drops}
use Rattle.js_tree.proofs.rows.relative_rows.RelativeRows.leave.Goals as goal

pub returns-then-goes : goal.returns-then-goes
returns-then-goes c =
    let l = c.len-count.ensures in
    let rows_len = c.args.self.now.rows.ok in
    let rows = c.args.self.now.rows.items in
    drops rows c.args.self.now.nodes.items c.pop.new.self.items c.in-Some.node c.truncate.new.self.items c.args.valid
    (note_of c.args.note) _ c.in-Some.ensures.items (omega (arith, l, rows_len)) c.if-goes.ensures
    c.truncate.ensures.items

pub returns-else-goes : goal.returns-else-goes
returns-else-goes c =
    let l = c.len-count.ensures in
    let rows_len = c.args.self.now.rows.ok in
    closes c.args.self.now.rows.items c.args.self.now.nodes.items c.pop.new.self.items c.in-Some.node
    c.index_mut-row.result.now _ c.args.valid (note_of c.args.note) _ c.in-Some.ensures.items
    (omega (arith, l, rows_len, c.if-number-count.true)) (omega (arith, l, rows_len)) c.if-goes.ensures
    c.index_mut-row.ensures.value
    (ap (λ n. closed_row (relative_row c.index_mut-row.result.now) c.args.valid (note_of n)
    (c.len-count.result - c.in-Some.node.number)) c.replace.ensures.after)

pub returns-else-number-count : goal.returns-else-number-count
returns-else-number-count c =
    let l = c.len-count.ensures in
    let rows_len = c.args.self.now.rows.ok in
    closes_beyond c.args.self.now.rows.items c.args.self.now.nodes.items c.pop.new.self.items c.in-Some.node
    c.args.valid (note_of c.args.note) c.in-Some.ensures.items (omega (arith, l, rows_len, c.if-number-count.false))
