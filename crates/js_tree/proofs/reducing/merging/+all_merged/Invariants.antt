use Rattle.std.proofs.Common.{◌≡◌, drop}
use Rattle.js_tree.specs.Alike.{same_but_keyword}
use Rattle.js_tree.specs.Forest.{forest_of, node_count}
use Rattle.js_tree.specs.Merged.{all_merged}
use Rattle.js_tree.specs.OutputUnit.{noted}
use Rattle.js_tree.proofs.reducing.merging.+all_merged.Given as goal

abbrev pub decreases-all_merged : goal.decreases-all_merged
decreases-all_merged l = node_count (forest_of l.trees.now)

abbrev pub invariant-loop-tree : goal.invariant-loop-tree
invariant-loop-tree l = all_merged noted same_but_keyword (forest_of l.trees)
    ≡ all_merged noted same_but_keyword (forest_of (drop l.tree-index l.trees))
