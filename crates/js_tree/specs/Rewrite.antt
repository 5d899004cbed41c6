-- The two rules that condense a tree, applied at one node anywhere below its root, and runs of them.
-- `noted` is true of the labels with a note. Rules may be applied in any order, anywhere.
use Rattle.std.specs.Prelude.{◌≡◌, ℕ, zero, suc, Bool, true, false, ◌||◌, ◌&&◌}
use Rattle.js_tree.specs.Forest.{Forest, empty, tree, Rose, tree_count}

-- the number is at least one
abbrev pub at_least_one : ℕ → Bool
at_least_one zero = false
at_least_one (suc n) = true

-- the number is at least two
abbrev pub at_least_two : ℕ → Bool
at_least_two zero = false
at_least_two (suc n) = at_least_one n

module _ {A : Type 0} (noted : A → Bool) where
  -- one node without a note is dropped, having no child, or replaced by its only child
  pub data ForestRewrite : Forest A → Forest A → Type 0 where
    dropped : {a : A} {after : Forest A} → noted a ≡ false → ForestRewrite (tree a empty after) after
    lifted : {a b : A} {below after : Forest A} → noted a ≡ false
        → ForestRewrite (tree a (tree b below empty) after) (tree b below after)
    inside : {a : A} {f g after : Forest A} → ForestRewrite f g → ForestRewrite (tree a f after) (tree a g after)
    beside : {a : A} {below f g : Forest A} → ForestRewrite f g → ForestRewrite (tree a below f) (tree a below g)

  -- steps one after another
  pub data ForestRun : Forest A → Forest A → Type 0 where
    done : {f : Forest A} → ForestRun f f
    next : {f g h : Forest A} → ForestRewrite f g → ForestRun g h → ForestRun f h

  -- no step is possible in the forest
  abbrev pub NormalForest : Forest A → Type 0
  NormalForest f = (g : Forest A) → ForestRewrite f g → ⊥

  -- a step below the root of a tree, which itself stays
  abbrev pub RewriteBelow : Rose A → Rose A → Type 0
  RewriteBelow t u = (u.root ≡ t.root) × ForestRewrite t.below u.below

  -- a run below the root of a tree
  abbrev pub RunBelow : Rose A → Rose A → Type 0
  RunBelow t u = (u.root ≡ t.root) × ForestRun t.below u.below

  -- no step is possible at a node with a note or with at least two children
  abbrev pub node_stands : A → Forest A → Bool
  node_stands a below = noted a || at_least_two (tree_count below)

  -- no step is possible at any node: the test of a normal forest
  abbrev pub all_stand : Forest A → Bool
  all_stand empty = true
  all_stand (tree a below after) = node_stands a below && (all_stand below && all_stand after)
