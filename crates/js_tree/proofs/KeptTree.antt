-- The kept tree: a step leaves it as it was, a normal tree is its own, each tree is led to it, and it has the same
-- units.
use Rattle.std.proofs.Common.{◌≡◌, ℕ, zero, suc, ◌+◌, Bool, true, false, ◌||◌, if◌then◌else◌, ◌∷◌}
use Rattle.std.proofs.Common.{◌++◌, refl, ap, sym, ◌∙◌, arith, append_assoc}
use Rattle.js_tree.specs.Forest.{Forest, empty, tree, Rose, ◌⊹◌, tree_count}
use Rattle.js_tree.specs.Rewrite.{at_least_one, at_least_two, ForestRewrite, dropped, lifted, inside, beside}
use Rattle.js_tree.specs.Rewrite.{ForestRun, done}
use Rattle.js_tree.specs.Rewrite.{next, NormalForest, RewriteBelow, RunBelow, node_stands, all_stand}
use Rattle.js_tree.specs.Kept.{noted_trees, is_kept_node, kept_below, kept_by}
use Rattle.js_tree.specs.Units.{units_below, units_by}
use Rattle.js_tree.proofs.Forests.{append-empty, tree_count-append, same_tree}
use Rattle.js_tree.proofs.Rewrites.{and_left, and_right, or_left, or_right, normal-all_stand}
use Rattle.js_tree.proofs.Rewrites.{all_stand-normal, run_append, run_inside, run_beside}

-- of one thing there are not two
one_not_two : (b : Bool) → at_least_two (if b then 1 else 0) ≡ false
one_not_two true = refl
one_not_two false = refl

one_is_one : (b : Bool) (n : ℕ) → (if at_least_one (if b then 1 else 0) then suc n else n) ≡ (if b then suc n else n)
one_is_one true n = refl
one_is_one false n = refl

two_are_one : (b : Bool) (n : ℕ) → (b || at_least_two n) ≡ true → (b || at_least_one n) ≡ true
two_are_one true n e = refl
two_are_one false (suc n) e = refl
two_are_one false zero e = e

-- a tree that is not kept holds at most one tree with a note
at_most_one : (b : Bool) (m n : ℕ) → (b || at_least_two m) ≡ false
    → m + n ≡ (if (b || at_least_one m) then suc n else n)
at_most_one false zero n e = omega arith
at_most_one false (suc zero) n e = omega arith
at_most_one false (suc (suc m)) n e = cc
at_most_one true m n e = cc

module _ {A : Type 0} (noted : A → Bool) where
  -- ---- a step leaves the kept tree as it was

  step-noted_trees : {f g : Forest A} → ForestRewrite noted f g → noted_trees noted f ≡ noted_trees noted g
  step-noted_trees (dropped n) = rw n refl
  step-noted_trees (lifted {b = b} {below = below} {after = after} n) =
      rw n (one_is_one (noted b || at_least_one (noted_trees noted below)) (noted_trees noted after))
  step-noted_trees (inside s) = rw (step-noted_trees s) refl
  step-noted_trees (beside s) = rw (step-noted_trees s) refl

  -- what is kept of one tree, before some others
  kept_alone : (v : Bool) (b : A) (f g : Forest A)
      → ((if v then tree b f empty else (f ⊹ empty)) ⊹ g) ≡ (if v then tree b f g else (f ⊹ g))
  kept_alone true b f g = refl
  kept_alone false b f g = ap (λ x. x ⊹ g) (append-empty f)

  pub step-kept_below : {f g : Forest A} → ForestRewrite noted f g → kept_below noted f ≡ kept_below noted g
  step-kept_below (dropped n) = rw n refl
  step-kept_below (lifted {b = b} {below = below} {after = after} n) =
      rw (n, one_not_two (noted b || at_least_one (noted_trees noted below)))
      (kept_alone (is_kept_node noted b below) b (kept_below noted below) (kept_below noted after))
  step-kept_below (inside s) = rw (step-noted_trees s, step-kept_below s) refl
  step-kept_below (beside s) = rw (step-kept_below s) refl

  pub run-kept_below : {f g : Forest A} → ForestRun noted f g → kept_below noted f ≡ kept_below noted g
  run-kept_below done = refl
  run-kept_below (next s r) = step-kept_below s ∙ run-kept_below r

  -- ---- a normal tree is its own kept tree

  normal-noted_trees : (f : Forest A) → all_stand noted f ≡ true → noted_trees noted f ≡ tree_count f
  normal-noted_trees empty n = refl
  normal-noted_trees (tree a below after) n =
      let here = and_left (node_stands noted a below) _ n in
      let rest = and_right (node_stands noted a below) _ n in
      rw (
        normal-noted_trees below (and_left (all_stand noted below) _ rest),
        normal-noted_trees after
            (and_right (all_stand noted below) _ rest),
        two_are_one (noted a) (tree_count below) here,
      ) refl

  all_stand-kept_below : (f : Forest A) → all_stand noted f ≡ true → kept_below noted f ≡ f
  all_stand-kept_below empty n = refl
  all_stand-kept_below (tree a below after) n =
      let here = and_left (node_stands noted a below) _ n in
      let rest = and_right (node_stands noted a below) _ n in
      let under = and_left (all_stand noted below) _ rest in
      rw (
        normal-noted_trees below under,
        here,
        all_stand-kept_below below under,
        all_stand-kept_below after
            (and_right (all_stand noted below) _ rest),
      ) refl

  pub normal-kept_below : (f : Forest A) → NormalForest noted f → kept_below noted f ≡ f
  normal-kept_below f n = all_stand-kept_below f (normal-all_stand noted f n)

  -- ---- the kept tree is normal

  kept_trees_at : (v : Bool) (a : A) (below after : Forest A) → is_kept_node noted a below ≡ v → tree_count
      (kept_below noted below) ≡ noted_trees noted below → tree_count (kept_below noted after) ≡ noted_trees noted after
      → tree_count (if v then tree a (kept_below noted below) (kept_below noted after) else
      (kept_below noted below ⊹ kept_below noted after)) ≡ noted_trees noted (tree a below after)
  kept_trees_at true a below after e i j = rw (two_are_one (noted a) (noted_trees noted below) e) (ap suc j)
  kept_trees_at false a below after e i j =
      tree_count-append (kept_below noted below) (kept_below noted after)
      ∙ (rw (i, j) (at_most_one (noted a) (noted_trees noted below) (noted_trees noted after) e))

  -- of each tree that holds a note one is left
  pub tree_count-kept_below : (f : Forest A) → tree_count (kept_below noted f) ≡ noted_trees noted f
  tree_count-kept_below empty = refl
  tree_count-kept_below (tree a below after) =
      kept_trees_at (is_kept_node noted a below) a below after refl (tree_count-kept_below below)
      (tree_count-kept_below after)

  all_stand-append : (f g : Forest A) → all_stand noted f ≡ true → all_stand noted g ≡ true
      → all_stand noted (f ⊹ g) ≡ true
  all_stand-append empty g n m = m
  all_stand-append (tree a below after) g n m =
      let here = and_left (node_stands noted a below) _ n in
      let rest = and_right (node_stands noted a below) _ n in
      rw (
        here,
        and_left (all_stand noted below) _ rest,
        all_stand-append after g
            (and_right (all_stand noted below) _ rest) m,
      ) refl

  kept_stands_at : (v : Bool) (a : A) (below after : Forest A) → is_kept_node noted a below ≡ v
      → all_stand noted (kept_below noted below) ≡ true → all_stand noted (kept_below noted after) ≡ true
      → all_stand noted (if v then tree a (kept_below noted below) (kept_below noted after) else
      (kept_below noted below ⊹ kept_below noted after)) ≡ true
  kept_stands_at true a below after e i j = rw (tree_count-kept_below below, e, i, j) refl
  kept_stands_at false a below after e i j = all_stand-append (kept_below noted below) (kept_below noted after) i j

  kept_stands : (f : Forest A) → all_stand noted (kept_below noted f) ≡ true
  kept_stands empty = refl
  kept_stands (tree a below after) =
      kept_stands_at (is_kept_node noted a below) a below after refl (kept_stands below) (kept_stands after)

  pub kept_is_normal : (f : Forest A) → NormalForest noted (kept_below noted f)
  kept_is_normal f = all_stand-normal noted (kept_below noted f) (kept_stands f)

  -- ---- a run leads to the kept tree

  goes : (a : A) (below after : Forest A) → noted a ≡ false → at_least_two (tree_count below) ≡ false
      → ForestRun noted (tree a below after) (below ⊹ after)
  goes a empty after e t = next (dropped e) done
  goes a (tree b below empty) after e t = next (lifted e) done
  goes a (tree b below (tree c under others)) after e t = cc

  reached_at : (v : Bool) (a : A) (below after : Forest A) → is_kept_node noted a below ≡ v
      → ForestRun noted below (kept_below noted below) → ForestRun noted after (kept_below noted after)
      → ForestRun noted (tree a below after) (if v then tree a (kept_below noted below) (kept_below noted after) else
      (kept_below noted below ⊹ kept_below noted after))
  reached_at true a below after e p q = run_append noted (run_inside noted p) (run_beside noted q)
  reached_at false a below after e p q =
      run_append noted (run_append noted (run_inside noted p) (run_beside noted q))
      (goes a (kept_below noted below) (kept_below noted after) (or_left (noted a) (at_least_two (noted_trees noted
      below)) e) (rw (tree_count-kept_below below) (or_right (noted a) (at_least_two (noted_trees noted below)) e)))

  pub kept_is_reached : (f : Forest A) → ForestRun noted f (kept_below noted f)
  kept_is_reached empty = done
  kept_is_reached (tree a below after) =
      reached_at (is_kept_node noted a below) a below after refl (kept_is_reached below) (kept_is_reached after)

  -- ---- the units stay, one by one and in their order

  pub units_below-append : (f g : Forest A) → units_below noted (f ⊹ g) ≡ units_below noted f ++ units_below noted g
  units_below-append empty g = refl
  units_below-append (tree a below after) g =
      rw (units_below-append after g) (sym (append_assoc (if noted a then a
      ∷ units_below noted below else units_below noted below) (units_below noted after) (units_below noted g)))

  kept_units_at : (v : Bool) (a : A) (below after : Forest A) → is_kept_node noted a below ≡ v
      → units_below noted (kept_below noted below) ≡ units_below noted below
      → units_below noted (kept_below noted after) ≡ units_below noted after
      → units_below noted (if v then tree a (kept_below noted below) (kept_below noted after) else
      (kept_below noted below ⊹ kept_below noted after)) ≡ units_below noted (tree a below after)
  kept_units_at true a below after e i j = rw (i, j) refl
  kept_units_at false a below after e i j =
      units_below-append (kept_below noted below) (kept_below noted after)
      ∙ rw (i, j, or_left (noted a) (at_least_two (noted_trees noted below)) e) refl

  units_below-kept_below : (f : Forest A) → units_below noted (kept_below noted f) ≡ units_below noted f
  units_below-kept_below empty = refl
  units_below-kept_below (tree a below after) =
      kept_units_at (is_kept_node noted a below) a below after refl (units_below-kept_below below)
      (units_below-kept_below after)

  -- ---- the same of trees

  pub step-kept : (t u : Rose A) → RewriteBelow noted t u → kept_by noted u ≡ kept_by noted t
  step-kept t u s = same_tree (kept_by noted t) (kept_by noted u) s.0 (sym (step-kept_below s.1))

  pub normal-kept : (t : Rose A) → NormalForest noted t.below → kept_by noted t ≡ t
  normal-kept t n = ap (λ f. record { root = t.root; below = f }) (normal-kept_below t.below n)

  pub run-kept : (t u : Rose A) → RunBelow noted t u → kept_by noted u ≡ kept_by noted t
  run-kept t u r = same_tree (kept_by noted t) (kept_by noted u) r.0 (sym (run-kept_below r.1))

  pub run-normal : (t u : Rose A) → RunBelow noted t u → NormalForest noted u.below → u ≡ kept_by noted t
  run-normal t u r n = same_tree (kept_by noted t) u r.0 (sym (run-kept_below r.1 ∙ normal-kept_below u.below n))

  pub kept-kept : (t : Rose A) → kept_by noted (kept_by noted t) ≡ kept_by noted t
  kept-kept t = normal-kept (kept_by noted t) (kept_is_normal t.below)

  pub units-kept : (t : Rose A) → units_by noted (kept_by noted t) ≡ units_by noted t
  units-kept t = rw (units_below-kept_below t.below) refl
