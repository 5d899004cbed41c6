use Rattle.std.proofs.Common.{◌<◌, length, arith}
use Rattle.js_tree.proofs.Differing.{alike_again}
use Rattle.js_tree.proofs.reducing.sorting.are_alike_at.Goals as goal

pub returns-then-next-trees : goal.returns-then-next-trees
returns-then-next-trees c = λ h.
    let p : c.args.place < c.args.next = omega arith in
    let l : c.args.next < length c.args.trees.now = omega arith in
    alike_again c.args.trees.now c.args.place c.args.next c.index-trees-place.result c.index-trees-next.result
    c.are_alike.result p l c.index-trees-place.is c.index-trees-next.is c.are_alike.ensures h
