-- Moves: a rule, and the node that it is applied to, given by its index in preorder. The root's index is 0.
use Rattle.std.specs.Prelude.{ℕ, zero, suc, ◌-◌, Bool, true, false, ltb, if◌then◌else◌}
use Rattle.std.specs.Prelude.{List, [], ◌∷◌, Option, Some, None}
use Rattle.std.specs.List.{list_all}
use Rattle.js_tree.specs.Forest.{Forest, empty, tree, Rose, ◌⊹◌, node_count}
use Rattle.js_tree.specs.Merged.{has_alike}
use Rattle.js_tree.specs.declared.reducing.moves.Rule.{Rule}
use Rattle.js_tree.specs.declared.reducing.moves.Rule.TheVariants.{Drop, Lift, Merge}
use Rattle.js_tree.specs.declared.reducing.moves.Move.{Move}

module _ {A B : Type 0} where
  abbrev pub mapped : (A → B) → Option A → Option B
  mapped f None = None
  mapped f (Some x) = Some (f x)

  abbrev pub chained : (A → Option B) → Option A → Option B
  chained f None = None
  chained f (Some x) = f x

module _ {A : Type 0} (noted : A → Bool) where
  -- without the first node, if it is a leaf without a note
  abbrev pub without_leaf : A → Forest A → Forest A → Option (Forest A)
  without_leaf a empty after = if noted a then None else Some after
  without_leaf a (tree b below others) after = None

  -- with the first node replaced by its only child, if the node has no note
  abbrev pub with_only_child : A → Forest A → Forest A → Option (Forest A)
  with_only_child a empty after = None
  with_only_child a (tree b below empty) after = if noted a then None else Some (tree b below after)
  with_only_child a (tree b below (tree c under others)) after = None

-- without the first tree, if an earlier one is alike
abbrev pub without_alike : {A : Type 0} → (A → A → Bool) → Forest A → A → Forest A → Forest A → Option (Forest A)
without_alike same before a below after = if has_alike same before a below then Some after else None

module _ {A : Type 0} (noted : A → Bool) (same : A → A → Bool) where
  -- the rule at the first node of `tree a below after`, with these other trees before it
  abbrev pub moved_first : Rule → Forest A → A → Forest A → Forest A → Option (Forest A)
  moved_first Drop before = without_leaf noted
  moved_first Lift before = with_only_child noted
  moved_first Merge before = without_alike same before

  -- the rule at the node with this index, with other trees before; the first node's index is 0
  abbrev pub moved_at : Rule → Forest A → Forest A → ℕ → Option (Forest A)
  moved_at rule before empty n = None
  moved_at rule before (tree a below after) zero = moved_first rule before a below after
  moved_at rule before (tree a below after) (suc n) =
      if ltb n (node_count below) then mapped (λ f. tree a f after) (moved_at rule empty below n)
      else mapped (λ f. tree a below f) (moved_at rule (before ⊹ tree a below empty) after (n - node_count below))

  -- the same in a tree; its root has the index 0 and stays
  abbrev pub moved_below_root : Rule → ℕ → Rose A → Option (Rose A)
  moved_below_root rule zero t = None
  moved_below_root rule (suc n) t = mapped (λ f. record { root = t.root; below = f }) (moved_at rule empty t.below n)

  -- the tree after the move, if it is possible
  abbrev pub moved_by : Move → Rose A → Option (Rose A)
  moved_by m t = moved_below_root m.rule m.position t

  -- the tree after the moves, if each is possible when it is made
  abbrev pub replayed_by : List Move → Rose A → Option (Rose A)
  replayed_by [] t = Some t
  replayed_by (m ∷ ms) t = chained (replayed_by ms) (moved_by m t)

-- whether it is one of the two rules that condense
abbrev pub of_two : Rule → Bool
of_two Drop = true
of_two Lift = true
of_two Merge = false

-- whether each move is by one of the two
abbrev pub all_of_two : List Move → Bool
all_of_two = list_all (λ m. of_two m.rule)
