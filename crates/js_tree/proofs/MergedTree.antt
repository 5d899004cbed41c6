-- The merged tree: a step of the three rules leaves it as it was, a tree that no step leaves is its own, and each tree
-- is led to it.
use Rattle.std.proofs.Common.{◌≡◌, suc, ◌≤◌, ◌<◌, Bool, true, false, ◌||◌, if◌then◌else◌, refl, ap, sym, ◌∙◌, arith}
use Rattle.std.specs.Cmp.{IsEquivalence}
use Rattle.js_tree.specs.Forest.{Forest, empty, tree, ◌⊹◌, node_count, tree_count}
use Rattle.js_tree.specs.Rewrite.{at_least_two, ForestRewrite, dropped, lifted, inside, beside, node_stands}
use Rattle.js_tree.specs.Merged.{alike, alike_trees, has_alike, unlike, firsts, over, given_trees, merged_below}
use Rattle.js_tree.specs.Merged.{MergeRewrite, condensed, doubled, deeper, further, MergeRun, ended, then_on}
use Rattle.js_tree.specs.Merged.{MergeNormal}
use Rattle.js_tree.proofs.AlikeTrees.{alike_trees-refl, alike_trees-symm, alike_trees-congr}
use Rattle.js_tree.proofs.Forests.{append-empty, append-append}
use Rattle.js_tree.proofs.Giving.{given_trees-append}
use Rattle.js_tree.proofs.Rewrites.{and_left, and_right, or_left, or_right, step_takes_one, normal-all_stand}

pub or-true : (b c : Bool) → c ≡ true → (b || c) ≡ true
or-true true c e = refl
or-true false c e = e

-- ---- the trees that aren't alike to one, and the first of those that are alike

module _ {A : Type 0} (same : A → A → Bool) where
  unlike-append_at : (v : Bool) (a : A) (x : Forest A) (b : A) (under others g : Forest A)
      → alike_trees same a x b under ≡ v → unlike same a x (others ⊹ g) ≡ (unlike same a x others ⊹ unlike same a x g)
      → unlike same a x (tree b under others ⊹ g) ≡ (unlike same a x (tree b under others) ⊹ unlike same a x g)
  unlike-append_at true a x b under others g v i = rw v i
  unlike-append_at false a x b under others g v i = rw v (ap (tree b under) i)

  pub unlike-append : (a : A) (x f g : Forest A) → unlike same a x (f ⊹ g) ≡ (unlike same a x f ⊹ unlike same a x g)
  unlike-append a x empty g = refl
  unlike-append a x (tree b under others) g =
      unlike-append_at (alike_trees same a x b under) a x b under others g refl (unlike-append a x others g)

  unlike-swap_at : (v w : Bool) (a : A) (x : Forest A) (c : A) (y : Forest A) (b : A) (under others : Forest A)
      → alike_trees same a x b under ≡ v → alike_trees same c y b under ≡ w
      → unlike same a x (unlike same c y others) ≡ unlike same c y (unlike same a x others)
      → unlike same a x (unlike same c y (tree b under others))
      ≡ unlike same c y (unlike same a x (tree b under others))
  unlike-swap_at true true a x c y b under others v w i = rw (v, w) i
  unlike-swap_at true false a x c y b under others v w i = rw (v, w) (rw v i)
  unlike-swap_at false true a x c y b under others v w i = rw (v, w) i
  unlike-swap_at false false a x c y b under others v w i = rw (v, w, v) (ap (tree b under) i)

  unlike-swap : (a : A) (x : Forest A) (c : A) (y f : Forest A)
      → unlike same a x (unlike same c y f) ≡ unlike same c y (unlike same a x f)
  unlike-swap a x c y empty = refl
  unlike-swap a x c y (tree b under others) =
      unlike-swap_at (alike_trees same a x b under) (alike_trees same c y b under) a x c y b under others refl refl
      (unlike-swap a x c y others)

  unlike-twice_at : (v : Bool) (a : A) (x : Forest A) (b : A) (under others : Forest A)
      → alike_trees same a x b under ≡ v → unlike same a x (unlike same a x others) ≡ unlike same a x others
      → unlike same a x (unlike same a x (tree b under others)) ≡ unlike same a x (tree b under others)
  unlike-twice_at true a x b under others v i = rw v i
  unlike-twice_at false a x b under others v i = rw v (rw v (ap (tree b under) i))

  unlike-twice : (a : A) (x f : Forest A) → unlike same a x (unlike same a x f) ≡ unlike same a x f
  unlike-twice a x empty = refl
  unlike-twice a x (tree b under others) =
      unlike-twice_at (alike_trees same a x b under) a x b under others refl (unlike-twice a x others)

  -- each tree of the second is alike to one of the first
  abbrev pub AllFound : Forest A → Forest A → Type 0
  AllFound f empty = Unit {0}
  AllFound f (tree a below after) = (has_alike same f a below ≡ true) × AllFound f after

  later_found : (b : A) (under f x : Forest A) → AllFound f x → AllFound (tree b under f) x
  later_found b under f empty h = h
  later_found b under f (tree a below after) h =
      (or-true (alike_trees same b under a below) (has_alike same f a below) h.0, later_found b under f after h.1)

  past_found : (f g x : Forest A) → AllFound g x → AllFound (f ⊹ g) x
  past_found empty g x h = h
  past_found (tree b under f) g x h = later_found b under (f ⊹ g) x (past_found f g x h)

  found_past_at : (v : Bool) (f g : Forest A) (a : A) (x : Forest A) → (v || has_alike same f a x) ≡ true
      → (has_alike same f a x ≡ true → has_alike same (f ⊹ g) a x ≡ true) → (v || has_alike same (f ⊹ g) a x) ≡ true
  found_past_at true f g a x h i = refl
  found_past_at false f g a x h i = i h

  pub found_past : (f g : Forest A) (a : A) (x : Forest A) → has_alike same f a x ≡ true
      → has_alike same (f ⊹ g) a x ≡ true
  found_past empty g a x h = absurd cc
  found_past (tree b under others) g a x h =
      found_past_at (alike_trees same b under a x) others g a x h (found_past others g a x)

module _ {A : Type 0} (same : A → A → Bool) (e : IsEquivalence same) where
  unlike-alike : (a : A) (x : Forest A) (c : A) (y f : Forest A) → alike_trees same a x c y ≡ true
      → unlike same a x f ≡ unlike same c y f
  unlike-alike a x c y empty h = refl
  unlike-alike a x c y (tree b under others) h =
      λ i. if alike_trees-congr same e a x c y b under h i then unlike-alike a x c y others h i else tree b under
      (unlike-alike a x c y others h i)

  firsts-unlike_at : (v : Bool) (a : A) (x : Forest A) (b : A) (under others : Forest A)
      → alike_trees same a x b under ≡ v
      → firsts same (unlike same a x others) ≡ unlike same a x (firsts same others)
      → firsts same (unlike same a x (tree b under others)) ≡ unlike same a x (firsts same (tree b under others))
  firsts-unlike_at true a x b under others v i =
      rw (v, i) (sym (unlike-twice same a x (firsts same others))
      ∙ ap (unlike same a x) (unlike-alike a x b under (firsts same others) v))
  firsts-unlike_at false a x b under others v i =
      rw (v, i) (ap (tree b under) (unlike-swap same b under a x (firsts same others)))

  pub firsts-unlike : (a : A) (x f : Forest A) → firsts same (unlike same a x f) ≡ unlike same a x (firsts same f)
  firsts-unlike a x empty = refl
  firsts-unlike a x (tree b under others) =
      firsts-unlike_at (alike_trees same a x b under) a x b under others refl (firsts-unlike a x others)

  firsts-firsts : (f : Forest A) → firsts same (firsts same f) ≡ firsts same f
  firsts-firsts empty = refl
  firsts-firsts (tree a x after) =
      ap (λ g. tree a x (unlike same a x g))
      (firsts-unlike a x (firsts same after) ∙ ap (unlike same a x) (firsts-firsts after))
      ∙ ap (tree a x) (unlike-twice same a x (firsts same after))

  firsts-append : (f g : Forest A) → firsts same (f ⊹ firsts same g) ≡ firsts same (f ⊹ g)
  firsts-append empty g = firsts-firsts g
  firsts-append (tree a x after) g = ap (λ h. tree a x (unlike same a x h)) (firsts-append after g)

  -- a tree that is alike to an earlier one goes
  firsts-found_at : (v : Bool) (b : A) (under others : Forest A) (a : A) (x g : Forest A)
      → alike_trees same b under a x ≡ v → (v || has_alike same others a x) ≡ true
      → (has_alike same others a x ≡ true → firsts same (others ⊹ tree a x g) ≡ firsts same (others ⊹ g))
      → firsts same (tree b under others ⊹ tree a x g) ≡ firsts same (tree b under others ⊹ g)
  firsts-found_at true b under others a x g v h i =
      ap (tree b under)
      (sym (firsts-unlike b under (others ⊹ tree a x g))
      ∙ ap (firsts same) (unlike-append same b under others (tree a x g)
      ∙ rw v (sym (unlike-append same b under others g)))
      ∙ firsts-unlike b under (others ⊹ g))
  firsts-found_at false b under others a x g v h i = ap (λ r. tree b under (unlike same b under r)) (i h)

  pub firsts-found : (f : Forest A) (a : A) (x g : Forest A) → has_alike same f a x ≡ true
      → firsts same (f ⊹ tree a x g) ≡ firsts same (f ⊹ g)
  firsts-found empty a x g h = absurd cc
  firsts-found (tree b under others) a x g h =
      firsts-found_at (alike_trees same b under a x) b under others a x g refl h (firsts-found others a x g)

  firsts-all_found : (f x g : Forest A) → AllFound same f x → firsts same (f ⊹ (x ⊹ g)) ≡ firsts same (f ⊹ g)
  firsts-all_found f empty g h = refl
  firsts-all_found f (tree a x after) g h = firsts-found f a x (after ⊹ g) h.0 ∙ firsts-all_found f after g h.1

  -- alike trees are found
  alike_found : (y x z : Forest A) → alike same y x ≡ true → AllFound same (y ⊹ z) x
  alike_found y empty z h = tt
  alike_found empty (tree a below after) z h = absurd cc
  alike_found (tree b under others) (tree a below after) z h =
      let here = and_left (alike_trees same b under a below) _ h in (
        rw here refl,
        later_found same b under (others ⊹ z) after
            (alike_found others after z (and_right (alike_trees same b under a below) _ h)),
      )

  found_alike_at : (a : A) (x : Forest A) (c : A) (y : Forest A) (b : A) (under : Forest A)
      → alike_trees same a x c y ≡ true → alike_trees same b under a x ≡ alike_trees same b under c y
  found_alike_at a x c y b under h = alike_trees-symm same e b under a x ∙ alike_trees-congr same e a x c y b under h
      ∙ alike_trees-symm same e c y b under

  pub found_alike : (f : Forest A) (a : A) (x : Forest A) (c : A) (y : Forest A) → alike_trees same a x c y ≡ true
      → has_alike same f a x ≡ has_alike same f c y
  found_alike empty a x c y h = refl
  found_alike (tree b under others) a x c y h = λ i. found_alike_at a x c y b under h i
      || found_alike others a x c y h i

  pub found_last : (f : Forest A) (a : A) (x : Forest A) → has_alike same (f ⊹ tree a x empty) a x ≡ true
  found_last empty a x = rw (alike_trees-refl same e a x) refl
  found_last (tree b under others) a x =
      or-true (alike_trees same b under a x) (has_alike same (others ⊹ tree a x empty) a x) (found_last others a x)

-- ---- a step leaves fewer nodes

module _ {A : Type 0} (noted : A → Bool) (same : A → A → Bool) where
  pub merge_step_leaves_fewer : {before f g : Forest A} → MergeRewrite noted same before f g
      → node_count g < node_count f
  merge_step_leaves_fewer (condensed s) = omega (arith, step_takes_one noted s)
  merge_step_leaves_fewer (doubled h) = omega arith
  merge_step_leaves_fewer (deeper s) = omega (arith, merge_step_leaves_fewer s)
  merge_step_leaves_fewer (further s) = omega (arith, merge_step_leaves_fewer s)

  merge_run_leaves_no_more : {before f g : Forest A} → MergeRun noted same before f g → node_count g ≤ node_count f
  merge_run_leaves_no_more ended = omega arith
  merge_run_leaves_no_more (then_on s p) = omega (arith, merge_step_leaves_fewer s, merge_run_leaves_no_more p)

-- ---- alike trees give alike trees

module _ {A : Type 0} (noted : A → Bool) (same : A → A → Bool) (e : IsEquivalence same) (notes : (a b : A)
    → same a b ≡ true → noted a ≡ noted b) where
  alike-append : (f g h k : Forest A) → alike same f g ≡ true → alike same h k ≡ true
      → alike same (f ⊹ h) (g ⊹ k) ≡ true
  alike-append empty empty h k p q = q
  alike-append empty (tree b under others) h k p q = absurd cc
  alike-append (tree a below after) empty h k p q = absurd cc
  alike-append (tree a below after) (tree b under others) h k p q =
      rw (
        and_left (alike_trees same a below b under) _ p,
        alike-append after others h k
            (and_right (alike_trees same a below b under) _ p) q,
      ) refl

  alike-tree_count : (f g : Forest A) → alike same f g ≡ true → tree_count f ≡ tree_count g
  alike-tree_count empty empty p = refl
  alike-tree_count empty (tree b under others) p = absurd cc
  alike-tree_count (tree a below after) empty p = absurd cc
  alike-tree_count (tree a below after) (tree b under others) p =
      ap suc (alike-tree_count after others (and_right (alike_trees same a below b under) _ p))

  alike-unlike_at : (v : Bool) (a : A) (x : Forest A) (b : A) (y : Forest A) (c : A) (below after : Forest A) (d : A)
      (under others : Forest A)
      → alike_trees same a x c below ≡ v → alike_trees same b y d under ≡ v → alike_trees same c below d under ≡ true
      → alike same (unlike same a x after) (unlike same b y others) ≡ true
      → alike same (unlike same a x (tree c below after)) (unlike same b y (tree d under others)) ≡ true
  alike-unlike_at true a x b y c below after d under others v w h i = rw (v, w) i
  alike-unlike_at false a x b y c below after d under others v w h i = rw (v, w) (rw (h, i) refl)

  alike-unlike : (a : A) (x : Forest A) (b : A) (y f g : Forest A) → alike_trees same a x b y ≡ true
      → alike same f g ≡ true → alike same (unlike same a x f) (unlike same b y g) ≡ true
  alike-unlike a x b y empty empty h p = refl
  alike-unlike a x b y empty (tree d under others) h p = absurd cc
  alike-unlike a x b y (tree c below after) empty h p = absurd cc
  alike-unlike a x b y (tree c below after) (tree d under others) h p =
      let here = and_left (alike_trees same c below d under) _ p in
      let both : alike_trees same a x c below ≡ alike_trees same b y d under =
      alike_trees-congr same e a x b y c below h ∙ found_alike_at same e c below d under b y here in
      alike-unlike_at (alike_trees same a x c below) a x b y c below after d under others refl (sym both) here
      (alike-unlike a x b y after others h (and_right (alike_trees same c below d under) _ p))

  alike-firsts : (f g : Forest A) → alike same f g ≡ true → alike same (firsts same f) (firsts same g) ≡ true
  alike-firsts empty empty p = refl
  alike-firsts empty (tree b under others) p = absurd cc
  alike-firsts (tree a below after) empty p = absurd cc
  alike-firsts (tree a below after) (tree b under others) p =
      let here = and_left (alike_trees same a below b under) _ p in
      let rest = alike-firsts after others (and_right (alike_trees same a below b under) _ p) in
      rw (here, alike-unlike a below b under (firsts same after) (firsts same others) here rest) refl

  alike-over_at : (v : Bool) (a b : A) (f g : Forest A) → node_stands noted a f ≡ v → node_stands noted b g ≡ v
      → same a b ≡ true → alike same f g ≡ true → alike same (over noted same a f) (over noted same b g) ≡ true
  alike-over_at true a b f g v w s p = rw (v, w) (rw (s, p) refl)
  alike-over_at false a b f g v w s p = rw (v, w) p

  alike-over : (a b : A) (f g : Forest A) → same a b ≡ true → alike same f g ≡ true
      → alike same (over noted same a f) (over noted same b g) ≡ true
  alike-over a b f g s p =
      let both : node_stands noted a f
      ≡ node_stands noted b g = λ i. notes a b s i || at_least_two (alike-tree_count f g p i) in
      alike-over_at (node_stands noted a f) a b f g refl (sym both) s p

  alike-given : (f g : Forest A) → alike same f g ≡ true
      → alike same (given_trees noted same f) (given_trees noted same g) ≡ true
  alike-given empty empty p = refl
  alike-given empty (tree b under others) p = absurd cc
  alike-given (tree a below after) empty p = absurd cc
  alike-given (tree a below after) (tree b under others) p =
      let here = and_left (alike_trees same a below b under) _ p in
      let down = alike-firsts (given_trees noted same below) (given_trees noted same under)
      (alike-given below under (and_right (same a b) _ here)) in
      alike-append (over noted same a (merged_below noted same below)) (over noted same b
      (merged_below noted same under)) (given_trees noted same after) (given_trees noted same others)
      (alike-over a b (merged_below noted same below) (merged_below noted same under) (and_left (same a b) _ here) down)
      (alike-given after others (and_right (alike_trees same a below b under) _ p))

  -- ---- a step leaves the merged tree as it was

  abbrev gives : A → Forest A → Forest A
  gives a below = over noted same a (merged_below noted same below)

  alike-gives : (a : A) (below : Forest A) (b : A) (under : Forest A) → alike_trees same a below b under ≡ true
      → alike same (gives a below) (gives b under) ≡ true
  alike-gives a below b under h =
      alike-over a b (merged_below noted same below) (merged_below noted same under) (and_left (same a b) _ h)
      (alike-firsts (given_trees noted same below) (given_trees noted same under)
      (alike-given below under (and_right (same a b) _ h)))

  one_over : (v : Bool) (a b : A) (m : Forest A) → noted a ≡ false → node_stands noted b m ≡ v → firsts same m ≡ m
      → over noted same a (firsts same ((if v then tree b m empty else m) ⊹ empty)) ≡ (if v then tree b m empty else m)
  one_over true a b m n w i = rw n refl
  one_over false a b m n w i = rw (append-empty m, i, n, or_right (noted b) (at_least_two (tree_count m)) w) refl

  -- of the two rules
  step-merged_below : {f g : Forest A} → ForestRewrite noted f g
      → merged_below noted same f ≡ merged_below noted same g
  step-merged_below (dropped n) = rw n refl
  step-merged_below (lifted {a = a} {b = b} {below = below} {after = after} n) =
      let m = merged_below noted same below in
      ap (λ x. firsts same (x ⊹ given_trees noted same after))
      (one_over (node_stands noted b m) a b m n refl (firsts-firsts same e (given_trees noted same below)))
  step-merged_below (inside {a = a} {after = after} s) =
      ap (λ m. firsts same (over noted same a m ⊹ given_trees noted same after)) (step-merged_below s)
  step-merged_below (beside {a = a} {below = below} {f = f} {g = g} s) =
      sym (firsts-append same e (gives a below) (given_trees noted same f))
      ∙ ap (λ m. firsts same (gives a below ⊹ m)) (step-merged_below s)
      ∙ firsts-append same e (gives a below) (given_trees noted same g)

  found_given_at : (v : Bool) (b : A) (under others : Forest A) (a : A) (below : Forest A)
      → alike_trees same b under a below ≡ v → (v || has_alike same others a below) ≡ true
      → (has_alike same others a below ≡ true → AllFound same (given_trees noted same others) (gives a below))
      → AllFound same (given_trees noted same (tree b under others)) (gives a below)
  found_given_at true b under others a below v h i =
      alike_found same e (gives b under) (gives a below) (given_trees noted same others) (alike-gives b under a below v)
  found_given_at false b under others a below v h i =
      past_found same (gives b under) (given_trees noted same others) (gives a below) (i h)

  -- what a tree gives is found among what an earlier alike one gives
  found_given : (f : Forest A) (a : A) (below : Forest A) → has_alike same f a below ≡ true
      → AllFound same (given_trees noted same f) (gives a below)
  found_given empty a below h = absurd cc
  found_given (tree b under others) a below h =
      found_given_at (alike_trees same b under a below) b under others a below refl h (found_given others a below)

  -- of the three rules, after other trees
  merge_step-after : {before f g : Forest A} → MergeRewrite noted same before f g
      → firsts same (given_trees noted same before ⊹ given_trees noted same f)
      ≡ firsts same (given_trees noted same before ⊹ given_trees noted same g)
  merge_step-after {before = before} (condensed {f = f} {g = g} s) =
      sym (firsts-append same e (given_trees noted same before) (given_trees noted same f))
      ∙ ap (λ m. firsts same (given_trees noted same before ⊹ m)) (step-merged_below s)
      ∙ firsts-append same e (given_trees noted same before) (given_trees noted same g)
  merge_step-after {before = before} (doubled {below = below} {after = after} {a = a} h) =
      firsts-all_found same e (given_trees noted same before) (gives a below) (given_trees noted same after)
      (found_given before a below h)
  merge_step-after {before = before} (deeper {after = after} {a = a} s) =
      ap (λ m. firsts same (given_trees noted same before ⊹
      (over noted same a m ⊹ given_trees noted same after))) (merge_step-after s)
  merge_step-after {before = before} (further {below = below} {f = f} {g = g} {a = a} s) =
      let i = rw (given_trees-append noted same before (tree a below empty), append-empty (gives a below)) at
      (merge_step-after s) in
      ap (firsts same) (sym (append-append (given_trees noted same before) (gives a below) (given_trees noted same f)))
      ∙ i ∙ ap (firsts same) (append-append (given_trees noted same before) (gives a below) (given_trees noted same g))

  pub merge_step-merged_below : {f g : Forest A} → MergeRewrite noted same empty f g
      → merged_below noted same f ≡ merged_below noted same g
  merge_step-merged_below s = merge_step-after s

  pub merge_run-merged_below : {f g : Forest A} → MergeRun noted same empty f g
      → merged_below noted same f ≡ merged_below noted same g
  merge_run-merged_below ended = refl
  merge_run-merged_below (then_on s r) = merge_step-merged_below s ∙ merge_run-merged_below r

  -- ---- trees that no step leaves

  abbrev NormalAfter : Forest A → Forest A → Type 0
  NormalAfter before f = (g : Forest A) → MergeRewrite noted same before f g → ⊥

  normal-unlike_at : (v : Bool) (before : Forest A) (a : A) (x : Forest A) (b : A) (under others : Forest A)
      → alike_trees same a x b under ≡ v → NormalAfter before (tree b under others)
      → has_alike same before a x ≡ true → unlike same a x others ≡ others
      → unlike same a x (tree b under others) ≡ tree b under others
  normal-unlike_at true before a x b under others v n h i =
      absurd (n others (doubled (sym (found_alike same e before a x b under v) ∙ h)))
  normal-unlike_at false before a x b under others v n h i = rw v (ap (tree b under) i)

  normal-unlike : (before f : Forest A) (a : A) (x : Forest A) → NormalAfter before f → has_alike same before a x ≡ true
      → unlike same a x f ≡ f
  normal-unlike before empty a x n h = refl
  normal-unlike before (tree b under others) a x n h =
      normal-unlike_at (alike_trees same a x b under) before a x b under others refl n h
      (normal-unlike (before ⊹ tree b under empty) others a x (λ g s. n _ (further s))
      (found_past same before (tree b under empty) a x h))

  normal-firsts : (before f : Forest A) → NormalAfter before f → firsts same f ≡ f
  normal-firsts before empty n = refl
  normal-firsts before (tree a x after) n =
      let m : NormalAfter (before ⊹ tree a x empty) after = λ g s. n _ (further s) in
      ap (λ g. tree a x (unlike same a x g)) (normal-firsts (before ⊹ tree a x empty) after m)
      ∙ ap (tree a x) (normal-unlike (before ⊹ tree a x empty) after a x m (found_last same e before a x))

  normal-given : (before f : Forest A) → NormalAfter before f → given_trees noted same f ≡ f
  normal-given before empty n = refl
  normal-given before (tree a below after) n =
      let i : NormalAfter empty below = λ g s. n _ (deeper s) in
      let here : node_stands noted a below ≡ true = and_left (node_stands noted a below) _
      (normal-all_stand noted (tree a below after) (λ g s. n g (condensed s))) in
      let m : merged_below noted same below ≡ below = ap (firsts same) (normal-given empty below i)
      ∙ normal-firsts empty below i in
      rw (m, here, normal-given (before ⊹ tree a below empty) after (λ g s. n _ (further s))) refl

  pub normal-merged_below : (f : Forest A) → MergeNormal noted same f → merged_below noted same f ≡ f
  normal-merged_below f n = ap (firsts same) (normal-given empty f n) ∙ normal-firsts empty f n

  -- ---- a run leads to the merged tree

  merge_run-append : {before f g h : Forest A} → MergeRun noted same before f g → MergeRun noted same before g h
      → MergeRun noted same before f h
  merge_run-append ended q = q
  merge_run-append (then_on s p) q = then_on s (merge_run-append p q)

  run_deeper : {before f g after : Forest A} {a : A} → MergeRun noted same empty f g
      → MergeRun noted same before (tree a f after) (tree a g after)
  run_deeper ended = ended
  run_deeper (then_on s p) = then_on (deeper s) (run_deeper p)

  run_further_at : {x f g : Forest A} (before : Forest A) (a : A) (below : Forest A) → x ≡ (before ⊹ tree a below empty)
      → MergeRun noted same x f g → MergeRun noted same before (tree a below f) (tree a below g)
  run_further_at before a below q ended = ended
  run_further_at before a below q (then_on s p) = then_on (further (rw q at s)) (run_further_at before a below q p)

  run_further : {before below f g : Forest A} {a : A} → MergeRun noted same (before ⊹ tree a below empty) f g
      → MergeRun noted same before (tree a below f) (tree a below g)
  run_further {before = before} {below = below} {a = a} p = run_further_at before a below refl p

  run_past : (before x f g : Forest A) → MergeRun noted same (before ⊹ x) f g
      → MergeRun noted same before (x ⊹ f) (x ⊹ g)
  run_past before empty f g p = rw append-empty at p
  run_past before (tree a below x) f g p =
      let q : MergeRun noted same ((before ⊹ tree a below empty) ⊹ x) f g =
      rw (append-append before (tree a below empty) x) p in
      run_further (run_past (before ⊹ tree a below empty) x f g q)

  run-unlike_at : (v : Bool) (before : Forest A) (a : A) (x : Forest A) (b : A) (under others : Forest A)
      → alike_trees same a x b under ≡ v → has_alike same before a x ≡ true
      → MergeRun noted same before others (unlike same a x others)
      → MergeRun noted same (before ⊹ tree b under empty) others (unlike same a x others)
      → MergeRun noted same before (tree b under others) (unlike same a x (tree b under others))
  run-unlike_at true before a x b under others v h p q =
      rw v (then_on (doubled (sym (found_alike same e before a x b under v) ∙ h)) p)
  run-unlike_at false before a x b under others v h p q = rw v (run_further q)

  run-unlike : (before : Forest A) (a : A) (x f : Forest A) → has_alike same before a x ≡ true
      → MergeRun noted same before f (unlike same a x f)
  run-unlike before a x empty h = ended
  run-unlike before a x (tree b under others) h =
      run-unlike_at (alike_trees same a x b under) before a x b under others refl h (run-unlike before a x others h)
      (run-unlike (before ⊹ tree b under empty) a x others (found_past same before (tree b under empty) a x h))

  run-firsts : (before f : Forest A) → MergeRun noted same before f (firsts same f)
  run-firsts before empty = ended
  run-firsts before (tree a x after) =
      run_further (merge_run-append (run-firsts (before ⊹ tree a x empty) after)
      (run-unlike (before ⊹ tree a x empty) a x (firsts same after) (found_last same e before a x)))

  run-few : (before m after : Forest A) (a : A) → noted a ≡ false → at_least_two (tree_count m) ≡ false
      → MergeRun noted same before (tree a m after) (m ⊹ after)
  run-few before empty after a n w = then_on (condensed (dropped n)) ended
  run-few before (tree b under empty) after a n w = then_on (condensed (lifted n)) ended
  run-few before (tree b under (tree c deep others)) after a n w = absurd cc

  run-over : (v : Bool) (before m after : Forest A) (a : A) → node_stands noted a m ≡ v
      → MergeRun noted same before (tree a m after) ((if v then tree a m empty else m) ⊹ after)
  run-over true before m after a w = ended
  run-over false before m after a w = run-few before m after a (or_left (noted a) (at_least_two (tree_count m)) w)
      (or_right (noted a) (at_least_two (tree_count m)) w)

  run-given : (before f : Forest A) → MergeRun noted same before f (given_trees noted same f)
  run-given before empty = ended
  run-given before (tree a below after) =
      let m = merged_below noted same below in
      let x = gives a below in
      merge_run-append (run_deeper
      (merge_run-append (run-given empty below) (run-firsts empty (given_trees noted same below))))
      (merge_run-append (run-over (node_stands noted a m) before m after a refl)
      (run_past before x after (given_trees noted same after) (run-given (before ⊹ x) after)))

  pub merged_below_is_reached : (f : Forest A) → MergeRun noted same empty f (merged_below noted same f)
  merged_below_is_reached f = merge_run-append (run-given empty f) (run-firsts empty (given_trees noted same f))

  -- ---- the merged tree is normal

  pub merged_below-merged_below : (f : Forest A)
      → merged_below noted same (merged_below noted same f) ≡ merged_below noted same f
  merged_below-merged_below f = sym (merge_run-merged_below (merged_below_is_reached f))

  -- no step leaves it: it would have to lead back to more nodes
  pub merged_below_is_normal : (f : Forest A) → MergeNormal noted same (merged_below noted same f)
  merged_below_is_normal f g s =
      let m = merged_below noted same f in
      let back : merged_below noted same g ≡ m = sym (merge_step-merged_below s) ∙ merged_below-merged_below f in
      let l = merge_run_leaves_no_more noted same (merged_below_is_reached g) in
      let k : node_count (merged_below noted same g) ≡ node_count m = ap node_count back in
      omega (arith, l, k, merge_step_leaves_fewer noted same s)
