-- A third rule besides the two that condense: a node is dropped with its subtree if an earlier sibling is alike. And
-- the merged tree: the one in which every run of the three rules ends, defined without runs or steps. `noted` is true
-- of the labels with a note, and `same` of labels that are equal in all that counts.
use Rattle.std.specs.Prelude.{◌≡◌, Bool, true, false, not, ◌||◌, ◌&&◌, if◌then◌else◌}
use Rattle.js_tree.specs.Forest.{Forest, empty, tree, Rose, ◌⊹◌}
use Rattle.js_tree.specs.Rewrite.{ForestRewrite, node_stands}

-- ---- alike trees

module _ {A : Type 0} (same : A → A → Bool) where
  -- the trees are equal in all that counts, node by node
  abbrev pub alike : Forest A → Forest A → Bool
  alike empty empty = true
  alike empty (tree b under others) = false
  alike (tree a below after) empty = false
  alike (tree a below after) (tree b under others) = (same a b && alike below under) && alike after others

  -- the tree of a over the one forest and the tree of b over the other are alike
  abbrev pub alike_trees : A → Forest A → A → Forest A → Bool
  alike_trees a below b under = same a b && alike below under

  -- one of the trees is alike to that of a
  abbrev pub has_alike : Forest A → A → Forest A → Bool
  has_alike empty a below = false
  has_alike (tree b under others) a below = alike_trees b under a below || has_alike others a below

  -- those of the trees that aren't alike to that of a
  abbrev pub unlike : A → Forest A → Forest A → Forest A
  unlike a below empty = empty
  unlike a below (tree b under others) =
      if alike_trees a below b under then unlike a below others else tree b under (unlike a below others)

  -- those of the second that aren't alike to one of the first
  abbrev pub others : Forest A → Forest A → Forest A
  others f empty = empty
  others f (tree a below after) = if has_alike f a below then others f after else tree a below (others f after)

  -- none of the second is alike to one of the first
  abbrev pub none_found : Forest A → Forest A → Bool
  none_found f empty = true
  none_found f (tree a below after) = not (has_alike f a below) && none_found f after

  -- none of the trees is alike to an earlier one, nor to one of those before them all
  abbrev pub none_alike : Forest A → Forest A → Bool
  none_alike before empty = true
  none_alike before (tree a below after) = not (has_alike before a below)
      && none_alike (before ⊹ tree a below empty) after

  -- the trees without those that are alike to an earlier one
  abbrev pub firsts : Forest A → Forest A
  firsts empty = empty
  firsts (tree a below after) = tree a below (unlike a below (firsts after))

module _ {A : Type 0} (noted : A → Bool) (same : A → A → Bool) where
  -- ---- the merged tree

  -- the node over the trees if it has a note or there are at least two of them, else the trees themselves
  abbrev pub over : A → Forest A → Forest A
  over a trees = if node_stands noted a trees then tree a trees empty else trees

  -- what each tree gives, in order: its node over what its children give, without those alike to an earlier one
  abbrev pub given_trees : Forest A → Forest A
  given_trees empty = empty
  given_trees (tree a below after) = over a (firsts same (given_trees below)) ⊹ given_trees after

  abbrev pub merged_below : Forest A → Forest A
  merged_below f = firsts same (given_trees f)

  -- the root, and below it what its children give, without those alike to an earlier one
  abbrev pub merged_by : Rose A → Rose A
  merged_by t = record { root = t.root; below = merged_below t.below }

  -- ---- steps and runs

  -- A step of one of the three rules at one node of trees, after other trees that stay as they are.
  pub data MergeRewrite : Forest A → Forest A → Forest A → Type 0 where
    condensed : {before f g : Forest A} → ForestRewrite noted f g → MergeRewrite before f g
    doubled : {before below after : Forest A} {a : A} → has_alike same before a below ≡ true
        → MergeRewrite before (tree a below after) after
    deeper : {before f g after : Forest A} {a : A} → MergeRewrite empty f g
        → MergeRewrite before (tree a f after) (tree a g after)
    further : {before below f g : Forest A} {a : A} → MergeRewrite (before ⊹ tree a below empty) f g
        → MergeRewrite before (tree a below f) (tree a below g)

  -- steps one after another
  pub data MergeRun : Forest A → Forest A → Forest A → Type 0 where
    ended : {before f : Forest A} → MergeRun before f f
    then_on : {before f g h : Forest A} → MergeRewrite before f g → MergeRun before g h → MergeRun before f h

  -- no condensing step is possible at any node, and no node has children that are alike
  abbrev pub all_merged : Forest A → Bool
  all_merged empty = true
  all_merged (tree a below after) = (node_stands noted a below && none_alike same empty below)
      && (all_merged below && all_merged after)

  -- no step is possible in the trees, if there are none before them
  abbrev pub MergeNormal : Forest A → Type 0
  MergeNormal f = (g : Forest A) → MergeRewrite empty f g → ⊥
