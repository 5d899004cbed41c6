-- Ordered trees with labels of any type, and forests: lists of sibling trees.
use Rattle.std.specs.Prelude.{ℕ, suc, ◌+◌, ◌≤◌, max, List, [], ◌∷◌}
use Rattle.std.proofs.Common.{arith}
use denote.Param.Weighed.{most}

-- sibling trees: the first tree's label, the forest below it, and the trees after it
pub data Forest (A : Type 0) : Type 0 where
  empty : Forest A
  tree : A → Forest A → Forest A → Forest A

-- one tree: the label of its root, and the forest of its children
pub record Rose (A : Type 0) : Type 0 where
  pub root : A
  pub below : Forest A

-- a list of trees as a forest
abbrev pub forest_of : {A : Type 0} → List (Rose A) → Forest A
forest_of [] = empty
forest_of (t ∷ ts) = tree t.root t.below (forest_of ts)

-- the trees of f, and then those of g
abbrev pub ◌⊹◌ : {A : Type 0} → Forest A → Forest A → Forest A
empty ⊹ g = g
tree a below after ⊹ g = tree a below (after ⊹ g)

infixl 20 ◌⊹◌
-- how many nodes a forest has
abbrev pub node_count : {A : Type 0} → Forest A → ℕ
node_count empty = 0
node_count (tree a below after) = suc (node_count below + node_count after)

-- how many sibling trees there are
abbrev pub tree_count : {A : Type 0} → Forest A → ℕ
tree_count empty = 0
tree_count (tree a below after) = suc (tree_count after)

-- how many nodes the longest path down has
abbrev pub height : {A : Type 0} → Forest A → ℕ
height empty = 0
height (tree a below after) = max (suc (height below)) (height after)

-- a tree is smaller than the forest that it is in
pub most_le-node_count : {A : Type 0} → (ts : List (Rose A)) → most (λ t.
    (node_count t.below + node_count t.below + 2) + 1) ts ≤ node_count (forest_of ts) + node_count (forest_of ts) + 1
most_le-node_count [] = omega arith
most_le-node_count (t ∷ ts) = omega (arith, most_le-node_count ts)
