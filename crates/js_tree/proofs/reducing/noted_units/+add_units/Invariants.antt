use Rattle.std.proofs.Common.{◌≡◌, ◌++◌, drop, map}
use Rattle.js_tree.specs.Forest.{forest_of, node_count}
use Rattle.js_tree.specs.OutputUnit.{noted}
use Rattle.js_tree.specs.Units.{units_below}
use Rattle.js_tree.proofs.reducing.noted_units.+add_units.Given as goal

abbrev pub decreases-add_units : goal.decreases-add_units
decreases-add_units l = node_count (forest_of l.trees.now)

abbrev pub invariant-loop-tree : goal.invariant-loop-tree
invariant-loop-tree l = map (λ unit. unit.now) l.found.items ++ units_below noted (forest_of
    (drop l.tree-index l.trees)) ≡ map (λ unit. unit.now) l.initial.found.items ++ units_below noted (forest_of l.trees)
