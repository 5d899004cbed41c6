use Rattle.std.proofs.Common.{◌∙◌, arith}
use Rattle.js_tree.proofs.Forests.{fewer_children}
use Rattle.js_tree.proofs.reducing.noted_units.+add_units.Goals as goal

pub add_units-requires : goal.add_units-requires
add_units-requires t c =
    let fewer = fewer_children c.args.trees.now c.loop-tree.tree-index c.tree-item.result c.tree.inside.unit _ _
    c.as_slice.ensures (c.tree.view_is ∙ c.tree-item.is) (omega arith) in
    (omega (arith, fewer, c.decreases), tt)
