-- The flat form of a tree: its labels in preorder, each with the number of nodes of its subtree, itself included.
use Rattle.std.specs.Prelude.{ℕ, suc, List, [], ◌∷◌, ◌++◌}
use Rattle.js_tree.specs.Forest.{Forest, empty, tree, Rose, node_count}

module _ {A : Type 0} where
  -- the flat form of sibling trees
  abbrev pub flat_of : Forest A → List (A × ℕ)
  flat_of empty = []
  flat_of (tree a below after) = (a, suc (node_count below)) ∷ (flat_of below ++ flat_of after)

  abbrev pub flat_form : Rose A → List (A × ℕ)
  flat_form t = (t.root, suc (node_count t.below)) ∷ flat_of t.below
