use Rattle.std.proofs.Common.{◌≡◌, ◌+◌, ◌*◌, map, take}
use Rattle.js_doc.specs.Seen.{value_of}
use Rattle.js_tree.specs.Forest.{forest_of, node_count}
use Rattle.js_tree.specs.Form.{node_values}
use Rattle.js_tree.proofs.formats.documents.+tree_doc.Given as goal

abbrev pub decreases-tree_doc : goal.decreases-tree_doc
decreases-tree_doc l = 2 * node_count l.tree.now.below + 1

abbrev pub decreases-tree_docs : goal.decreases-tree_docs
decreases-tree_docs l = 2 * node_count (forest_of l.trees.now)

abbrev pub invariant-tree_docs-loop-tree : goal.invariant-tree_docs-loop-tree
invariant-tree_docs-loop-tree l = map value_of l.docs.items ≡ node_values (forest_of (take l.tree-index l.trees))
