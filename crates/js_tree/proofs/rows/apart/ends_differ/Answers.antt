use Rattle.std.proofs.Common.{◌≤◌, length, sym, ◌∙◌, arith}
use Rattle.js_tree.proofs.RowsOfTrees.ApartRows.{not_equal, same_end}
use Rattle.js_tree.proofs.rows.apart.ends_differ.Goals as goal

pub returns-then-first-second : goal.returns-then-first-second
returns-then-first-second c =
    λ y s t e.
    let a = c.args.first.now in
    let b = c.args.second.now in
    let h : length a ≤ length b = omega (arith, c.if-first-second.true) in
    let same = same_end s a t b h e ∙ sym c.behind.ensures in
    not_equal c.ne.result a c.behind.result.now c.ne.ensures y same

pub returns : goal.returns
returns c =
    λ y s t e.
    let a = c.args.first.now in
    let b = c.args.second.now in
    let h : length b ≤ length a = omega (arith, c.if-first-second.false) in
    let same = same_end t b s a h (sym e) ∙ sym c.behind-2.ensures in
    not_equal c.ne-2.result c.behind-2.result.now b c.ne-2.ensures y (sym same)
