-- Pruning: keeps the nodes that agree with the root, if all nodes above them do too.
use Rattle.std.specs.Prelude.{Bool, if◌then◌else◌}
use Rattle.js_tree.specs.Forest.{Forest, empty, tree}

module _ {A : Type 0} (agrees : A → Bool) where
  -- the nodes that agree, if every node above them does too
  abbrev pub pruned_below : Forest A → Forest A
  pruned_below empty = empty
  pruned_below (tree a below after) =
      if agrees a then tree a (pruned_below below) (pruned_below after) else pruned_below after
