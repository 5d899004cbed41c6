use Rattle.std.proofs.Common.{◌-◌, length, take}
use Rattle.js_tree.proofs.RowsOfTrees.ApartRows.{split_at}
use Rattle.js_tree.proofs.rows.apart.last_bytes.Goals as goal

pub returns-then-length-text : goal.returns-then-length-text
returns-then-length-text c =
    let text = c.args.text.now in
    let n = length text - c.args.length in
    (take n text, split_at n text c.behind.result.now c.behind.ensures)
