use Rattle.std.proofs.Common.{◌≡◌, drop}
use Rattle.js_tree.specs.Forest.{forest_of, node_count}
use Rattle.js_tree.specs.OutputUnit.{noted}
use Rattle.js_tree.specs.Rewrite.{all_stand}
use Rattle.js_tree.proofs.reducing.condensing.+all_stand.Given as goal

abbrev pub decreases-all_stand : goal.decreases-all_stand
decreases-all_stand l = node_count (forest_of l.trees.now)

abbrev pub invariant-loop-tree : goal.invariant-loop-tree
invariant-loop-tree l = all_stand noted (forest_of l.trees) ≡ all_stand noted (forest_of (drop l.tree-index l.trees))
