use Rattle.std.proofs.Common.{◌+◌, ◌*◌, drop, false}
use Rattle.js_doc.specs.Compact.{compact_items}
use Rattle.js_doc.specs.Value.{items}
use Rattle.js_doc.proofs.BytesGone.{Wrote}
use Rattle.js_tree.specs.Forest.{forest_of, node_count}
use Rattle.js_tree.specs.Form.{node_values}
use Rattle.js_tree.proofs.formats.merged.+put_tree.Given as goal

abbrev pub decreases-put_tree : goal.decreases-put_tree
decreases-put_tree g l = 2 * node_count l.tree.now.below + 1

abbrev pub decreases-put_trees : goal.decreases-put_trees
decreases-put_trees g l = 2 * node_count (forest_of l.trees.now)

abbrev pub invariant-put_trees-loop-tree : goal.invariant-put_trees-loop-tree
invariant-put_trees-loop-tree g l =
    Wrote (g.O.Out.progress l.fn.out) (g.O.Out.progress l.out) (compact_items l.later (items (node_values
    (forest_of (drop l.tree-index l.trees))))) (compact_items false (items (node_values (forest_of l.trees))))
