use Rattle.std.proofs.Common.{◌≡◌, ap, arith, length, get_or, ◌<◌}
use Rattle.js_tree.specs.Forest.{node_count}
use Rattle.js_tree.proofs.Forests.{fewer_nodes}
use Rattle.js_tree.proofs.reducing.order.+compare.Goals as goal

pub compare_all-compare-order-requires : goal.compare_all-compare-order-requires
compare_all-compare-order-requires t c =
    let h : c.loop-tree.tree-index < length c.args.a.now = omega (arith, c.loop-tree-test.true) in
    let e : node_count c.tree-item.result.below ≡ node_count (get_or c.args.a.now c.loop-tree.tree-index
    c.tree-item.result).below = ap (λ t. node_count t.below) c.tree-item.is in
    (omega (arith, e, fewer_nodes c.args.a.now c.loop-tree.tree-index c.tree-item.result h, c.decreases), tt)
