-- Steps, and the test of a forest that no step leaves.
use Rattle.std.proofs.Common.{◌≡◌, ℕ, zero, suc, ◌+◌, ◌≤◌, ◌<◌, Bool, true, false, ◌||◌, ◌&&◌, leb, refl, arith}
use Rattle.std.proofs.lemmas.Bool.{le-leb}
use Rattle.js_tree.specs.Forest.{Forest, empty, tree, node_count, tree_count}
use Rattle.js_tree.specs.Rewrite.{at_least_two, ForestRewrite, dropped, lifted, inside, beside, ForestRun}
use Rattle.js_tree.specs.Rewrite.{done, next, NormalForest, node_stands, all_stand}

-- ---- tests

pub and_left : (b c : Bool) → (b && c) ≡ true → b ≡ true
and_left true c e = refl
and_left false c e = e

pub and_right : (b c : Bool) → (b && c) ≡ true → c ≡ true
and_right true c e = e
and_right false c e = cc

pub or_left : (b c : Bool) → (b || c) ≡ false → b ≡ false
or_left true c e = e
or_left false c e = refl

pub or_right : (b c : Bool) → (b || c) ≡ false → c ≡ false
or_right true c e = cc
or_right false c e = e

pub or-true : (b : Bool) → (b || true) ≡ true
or-true true = refl
or-true false = refl

pub le-at_least_two : (n : ℕ) → 2 ≤ n → at_least_two n ≡ true
le-at_least_two zero h = absurd (omega arith)
le-at_least_two (suc zero) h = absurd (omega arith)
le-at_least_two (suc (suc n)) h = refl

pub lt-at_least_two : (n : ℕ) → n < 2 → at_least_two n ≡ false
lt-at_least_two zero h = refl
lt-at_least_two (suc zero) h = refl
lt-at_least_two (suc (suc n)) h = absurd (omega arith)

pub leb-at_least_two : (n : ℕ) → leb 2 n ≡ at_least_two n
leb-at_least_two zero = refl
leb-at_least_two (suc zero) = refl
leb-at_least_two (suc (suc n)) = let h : 2 ≤ suc (suc n) = omega arith in le-leb 2 (suc (suc n)) h

module _ {A : Type 0} (noted : A → Bool) where
  -- ---- steps

  pub step_takes_one : {f g : Forest A} → ForestRewrite noted f g → node_count f ≡ node_count g + 1
  step_takes_one (dropped n) = omega arith
  step_takes_one (lifted n) = omega arith
  step_takes_one (inside s) = omega (arith, step_takes_one s)
  step_takes_one (beside s) = omega (arith, step_takes_one s)

  -- ---- normal forests

  normal_inside : {a : A} {below after : Forest A} → NormalForest noted (tree a below after) → NormalForest noted below
  normal_inside n g s = n _ (inside s)

  normal_beside : {a : A} {below after : Forest A} → NormalForest noted (tree a below after) → NormalForest noted after
  normal_beside n g s = n _ (beside s)

  normal_stands_at : (v : Bool) (a : A) (below after : Forest A) → noted a ≡ v → NormalForest noted (tree a below after)
      → (v || at_least_two (tree_count below)) ≡ true
  normal_stands_at true a below after e n = refl
  normal_stands_at false a empty after e n = absurd (n _ (dropped e))
  normal_stands_at false a (tree b below empty) after e n = absurd (n _ (lifted e))
  normal_stands_at false a (tree b below (tree c under others)) after e n = refl

  normal_stands : (a : A) (below after : Forest A) → NormalForest noted (tree a below after)
      → node_stands noted a below ≡ true
  normal_stands a below after n = normal_stands_at (noted a) a below after refl n

  -- the test recognizes normal forests
  pub normal-all_stand : (f : Forest A) → NormalForest noted f → all_stand noted f ≡ true
  normal-all_stand empty n = refl
  normal-all_stand (tree a below after) n =
      rw (
        normal_stands a below after n,
        normal-all_stand below (normal_inside n),
        normal-all_stand after
            (normal_beside n),
      ) refl

  step_not_all_stand : {f g : Forest A} → ForestRewrite noted f g → all_stand noted f ≡ true → ⊥
  step_not_all_stand (dropped n) e = let h = rw n at e in cc
  step_not_all_stand (lifted n) e = let h = rw n at e in cc
  step_not_all_stand (inside {a = a} {f = f} {after = after} s) e =
      step_not_all_stand s (and_left _ (all_stand noted after) (and_right (node_stands noted a f) _ e))
  step_not_all_stand (beside {a = a} {below = below} s) e =
      step_not_all_stand s (and_right (all_stand noted below) _ (and_right (node_stands noted a below) _ e))

  pub all_stand-normal : (f : Forest A) → all_stand noted f ≡ true → NormalForest noted f
  all_stand-normal f e g s = step_not_all_stand s e

  -- ---- runs

  pub run_append : {f g h : Forest A} → ForestRun noted f g → ForestRun noted g h → ForestRun noted f h
  run_append done q = q
  run_append (next s p) q = next s (run_append p q)

  pub run_inside : {a : A} {f g after : Forest A} → ForestRun noted f g
      → ForestRun noted (tree a f after) (tree a g after)
  run_inside done = done
  run_inside (next s p) = next (inside s) (run_inside p)

  pub run_beside : {a : A} {below f g : Forest A} → ForestRun noted f g
      → ForestRun noted (tree a below f) (tree a below g)
  run_beside done = done
  run_beside (next s p) = next (beside s) (run_beside p)
