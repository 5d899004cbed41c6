use Rattle.std.proofs.Common.{◌<◌, ◌≤◌, length, arith}
use Rattle.js_tree.proofs.Differing.{alike_before}
use Rattle.js_tree.proofs.reducing.likeness.comes_again_at_mark.Goals as goal

pub returns-then-place-count : goal.returns-then-place-count
returns-then-place-count c = λ d h.
    let p : c.last_mark-place.result < c.args.count = omega (arith, c.if-place-count.true) in
    let m : c.args.count ≤ c.args.index = omega arith in
    let l : c.args.index < length c.args.trees.now = omega arith in
    alike_before c.args.trees.now c.args.count c.last_mark-place.result c.args.index c.index-trees-place.result
    c.index-trees-index.result d c.are_alike.result p m l c.index-trees-place.is
    c.index-trees-index.is c.are_alike.ensures h
