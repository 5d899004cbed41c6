use Rattle.std.proofs.Common.{◌∙◌, arith}
use Rattle.js_tree.proofs.Forests.{fewer_children}
use Rattle.js_tree.proofs.reducing.merging.+all_merged.Goals as goal

pub all_merged-requires : goal.all_merged-requires
all_merged-requires t c =
    let fewer = fewer_children c.args.trees.now c.loop-tree.tree-index c.tree-item.result c.tree.inside.unit _ _
    c.as_slice-in-loop-tree.ensures (c.tree.view_is ∙ c.tree-item.is) (omega arith) in
    (omega (arith, fewer, c.decreases), tt)
