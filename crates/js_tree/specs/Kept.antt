-- The kept tree: the one in which every run of the two condensing rules ends, defined without runs or steps. `noted` is
-- true of the labels with a note.
use Rattle.std.specs.Prelude.{ℕ, suc, Bool, ◌||◌, if◌then◌else◌}
use Rattle.js_tree.specs.Forest.{Forest, empty, tree, Rose, ◌⊹◌}
use Rattle.js_tree.specs.Rewrite.{at_least_one, at_least_two}

module _ {A : Type 0} (noted : A → Bool) where
  -- how many of the trees contain a note
  abbrev pub noted_trees : Forest A → ℕ
  noted_trees empty = 0
  noted_trees (tree a below after) =
      if (noted a || at_least_one (noted_trees below)) then suc (noted_trees after) else noted_trees after

  -- a node is kept if it has a note, or if the trees of at least two of its children contain one
  abbrev pub is_kept_node : A → Forest A → Bool
  is_kept_node a below = noted a || at_least_two (noted_trees below)

  -- the nodes that are kept, each below the nearest node above it that is
  abbrev pub kept_below : Forest A → Forest A
  kept_below empty = empty
  kept_below (tree a below after) = if is_kept_node a below then tree a (kept_below below) (kept_below after) else
      (kept_below below ⊹ kept_below after)

  -- the root, and below it the nodes that are kept
  abbrev pub kept_by : Rose A → Rose A
  kept_by t = record { root = t.root; below = kept_below t.below }
