-- A possible move is a step, and each step is a possible move.
use Rattle.std.proofs.Common.{◌≡◌, ℕ, zero, suc, ◌+◌, ◌≤◌, ◌<◌, ◌-◌, Bool, true, false, ltb, if◌then◌else◌, List, []}
use Rattle.std.proofs.Common.{◌∷◌, ◌++◌, length, take, get_or, Option, Some, None, refl, ap, sym, ◌∙◌, arith, add-one}
use Rattle.std.proofs.lemmas.Bool.{lt-ltb, ltb-true, le-ltb, ltb-false}
use Rattle.std.proofs.Math.Seq.{take-suc}
use Rattle.js_tree.specs.Forest.{Forest, empty, tree, Rose, ◌⊹◌, node_count}
use Rattle.js_tree.specs.Rewrite.{ForestRewrite, dropped, lifted, inside, beside, done, next}
use Rattle.js_tree.specs.Rewrite.{NormalForest, RewriteBelow, RunBelow}
use Rattle.js_tree.specs.Kept.{kept_by}
use Rattle.js_tree.specs.Merged.{has_alike, MergeRewrite, condensed, doubled, deeper, further, MergeRun, ended}
use Rattle.js_tree.specs.Merged.{then_on}
use Rattle.js_tree.specs.Moves.{mapped, chained, without_leaf, with_only_child, moved_at, moved_below_root}
use Rattle.js_tree.specs.Moves.{moved_by, replayed_by, without_alike, of_two, all_of_two}
use Rattle.js_tree.specs.declared.reducing.moves.Rule.{Rule}
use Rattle.js_tree.specs.declared.reducing.moves.Rule.TheVariants.{Drop, Lift, Merge}
use Rattle.js_tree.specs.declared.reducing.moves.Move.{Move}
use Rattle.js_tree.proofs.Forests.{same_tree}
use Rattle.js_tree.proofs.Rewrites.{step_takes_one, and_left, and_right}
use Rattle.js_tree.proofs.KeptTree.{run-normal}
use Rattle.js_tree.proofs.MergedTree.{merge_step_leaves_fewer}

-- ---- options

module _ {A B : Type 0} where
  pub mapped-some : (f : A → B) (o : Option A) (y : B) → mapped f o ≡ Some y → (x : A) × (o ≡ Some x) × (f x ≡ y)
  mapped-some f None y e = absurd cc
  mapped-some f (Some x) y e = (x, refl, cc)

  chained-some : (f : A → Option B) (o : Option A) (y : B) → chained f o ≡ Some y
      → (x : A) × (o ≡ Some x) × (f x ≡ Some y)
  chained-some f None y e = absurd cc
  chained-some f (Some x) y e = (x, refl, e)

  chained_alike : (f g : A → Option B) (o : Option A) → ((x : A) → f x ≡ g x) → chained f o ≡ chained g o
  chained_alike f g None e = refl
  chained_alike f g (Some x) e = e x

module _ {A B C : Type 0} where
  chained-chained : (f : B → Option C) (g : A → Option B) (o : Option A)
      → chained f (chained g o) ≡ chained (λ x. chained f (g x)) o
  chained-chained f g None = refl
  chained-chained f g (Some x) = refl

chained-Some : {A : Type 0} (o : Option A) → chained (λ x. Some x) o ≡ o
chained-Some None = refl
chained-Some (Some x) = refl

module _ {A : Type 0} (noted : A → Bool) where
  -- ---- a move is a step

  without_leaf_step : (v : Bool) (a : A) (below after g : Forest A) → noted a ≡ v
      → without_leaf noted a below after ≡ Some g → ForestRewrite noted (tree a below after) g
  without_leaf_step true a empty after g n e = let h = rw n at e in cc
  without_leaf_step false a empty after g n e = let h : after ≡ g = (let k = rw n at e in cc) in rw (← h) (dropped n)
  without_leaf_step v a (tree b below others) after g n e = cc

  with_only_child_step : (v : Bool) (a : A) (below after g : Forest A) → noted a ≡ v
      → with_only_child noted a below after ≡ Some g → ForestRewrite noted (tree a below after) g
  with_only_child_step v a empty after g n e = cc
  with_only_child_step true a (tree b below empty) after g n e = let h = rw n at e in cc
  with_only_child_step false a (tree b below empty) after g n e = let h : tree b below after
      ≡ g = (let k = rw n at e in cc) in rw (← h) (lifted n)
  with_only_child_step v a (tree b below (tree c under others)) after g n e = cc

  -- from what holds below a node and after it
  moved_step_at : (v : Bool) (a : A) (below after g : Forest A) (o p : Option (Forest A)) → ((h : Forest A) → o ≡ Some h
      → ForestRewrite noted below h) → ((h : Forest A) → p ≡ Some h → ForestRewrite noted after h)
      → (if v then mapped (λ f. tree a f after) o else mapped (λ f. tree a below f) p) ≡ Some g
      → ForestRewrite noted (tree a below after) g
  moved_step_at true a below after g o p i j e = let m = mapped-some (λ f. tree a f after) o g e in
      rw (← m.2) (inside (i m.0 m.1))
  moved_step_at false a below after g o p i j e = let m = mapped-some (λ f. tree a below f) p g e in
      rw (← m.2) (beside (j m.0 m.1))

  without_alike_step : {same : A → A → Bool} (v : Bool) (before : Forest A) (a : A) (below after g : Forest A)
      → has_alike same before a below ≡ v → without_alike same before a below after ≡ Some g
      → MergeRewrite noted same before (tree a below after) g
  without_alike_step true before a below after g v e = let h : after
      ≡ g = (let k = rw v at e in cc) in rw (← h) (doubled v)
  without_alike_step false before a below after g v e = let h = rw v at e in cc

module _ {A : Type 0} (noted : A → Bool) (same : A → A → Bool) where
  -- of one of the two rules
  pub moved_at_step : (rule : Rule) (before f : Forest A) (n : ℕ) (g : Forest A) → of_two rule ≡ true
      → moved_at noted same rule before f n ≡ Some g → ForestRewrite noted f g
  moved_at_step rule before empty n g r e = absurd cc
  moved_at_step Drop before (tree a below after) zero g r e = without_leaf_step noted (noted a) a below after g refl e
  moved_at_step Lift before (tree a below after) zero g r e =
      with_only_child_step noted (noted a) a below after g refl e
  moved_at_step Merge before (tree a below after) zero g r e = absurd cc
  moved_at_step rule before (tree a below after) (suc n) g r e =
      moved_step_at noted (ltb n (node_count below)) a below after g (moved_at noted same rule empty below n)
      (moved_at noted same rule (before ⊹ tree a below empty) after (n - node_count below))
      (λ h. moved_at_step rule empty below n h r)
      (λ h. moved_at_step rule (before ⊹ tree a below empty) after (n - node_count below) h r) e

  moved_below_root_step : (rule : Rule) (n : ℕ) (t u : Rose A) → of_two rule ≡ true
      → moved_below_root noted same rule n t ≡ Some u → RewriteBelow noted t u
  moved_below_root_step rule zero t u r e = absurd cc
  moved_below_root_step rule (suc n) t u r e =
      let m = mapped-some (λ f. record { root = t.root; below = f }) (moved_at noted same rule empty t.below n) u e in
      (ap (λ w. w.root) (sym m.2), moved_at_step rule empty t.below n u.below r (m.1 ∙ ap (λ w. Some w.below) m.2))

  pub moved_step : (m : Move) (t u : Rose A) → of_two m.rule ≡ true
      → moved_by noted same m t ≡ Some u → RewriteBelow noted t u
  moved_step m t u r e = moved_below_root_step m.rule m.position t u r e

  -- of one of the three
  merge_moved_step_at : (v : Bool) (before : Forest A) (a : A) (below after g : Forest A) (o p : Option (Forest A))
      → ((h : Forest A) → o ≡ Some h → MergeRewrite noted same empty below h)
      → ((h : Forest A) → p ≡ Some h → MergeRewrite noted same (before ⊹ tree a below empty) after h)
      → (if v then mapped (λ f. tree a f after) o else mapped (λ f. tree a below f) p) ≡ Some g
      → MergeRewrite noted same before (tree a below after) g
  merge_moved_step_at true before a below after g o p i j e = let m = mapped-some (λ f. tree a f after) o g e in
      rw (← m.2) (deeper (i m.0 m.1))
  merge_moved_step_at false before a below after g o p i j e = let m = mapped-some (λ f. tree a below f) p g e in
      rw (← m.2) (further (j m.0 m.1))

  pub moved_at_merge_step : (rule : Rule) (before f : Forest A) (n : ℕ) (g : Forest A)
      → moved_at noted same rule before f n ≡ Some g → MergeRewrite noted same before f g
  moved_at_merge_step rule before empty n g e = absurd cc
  moved_at_merge_step Drop before (tree a below after) zero g e =
      condensed (without_leaf_step noted (noted a) a below after g refl e)
  moved_at_merge_step Lift before (tree a below after) zero g e =
      condensed (with_only_child_step noted (noted a) a below after g refl e)
  moved_at_merge_step Merge before (tree a below after) zero g e =
      without_alike_step noted (has_alike same before a below) before a below after g refl e
  moved_at_merge_step rule before (tree a below after) (suc n) g e =
      merge_moved_step_at (ltb n (node_count below)) before a below after g (moved_at noted same rule empty below n)
      (moved_at noted same rule (before ⊹ tree a below empty) after (n - node_count below))
      (moved_at_merge_step rule empty below n)
      (moved_at_merge_step rule (before ⊹ tree a below empty) after (n - node_count below)) e

  moved_below_root_merge_step : (rule : Rule) (n : ℕ) (t u : Rose A) → moved_below_root noted same rule n t ≡ Some u
      → (u.root ≡ t.root) × MergeRewrite noted same empty t.below u.below
  moved_below_root_merge_step rule zero t u e = absurd cc
  moved_below_root_merge_step rule (suc n) t u e =
      let m = mapped-some (λ f. record { root = t.root; below = f }) (moved_at noted same rule empty t.below n) u e in
      (ap (λ w. w.root) (sym m.2), moved_at_merge_step rule empty t.below n u.below (m.1 ∙ ap (λ w. Some w.below) m.2))

  pub moved_merge_step : (m : Move) (t u : Rose A) → moved_by noted same m t ≡ Some u
      → (u.root ≡ t.root) × MergeRewrite noted same empty t.below u.below
  moved_merge_step m t u e = moved_below_root_merge_step m.rule m.position t u e

  -- ---- a step is a move

  moved_lt_at : (v : Bool) (a : A) (below after g : Forest A) (n : ℕ) (o p : Option (Forest A))
      → ltb n (node_count below) ≡ v → ((h : Forest A) → p ≡ Some h → n - node_count below < node_count after)
      → (if v then mapped (λ f. tree a f after) o else mapped (λ f. tree a below f) p) ≡ Some g
      → suc n < suc (node_count below + node_count after)
  moved_lt_at true a below after g n o p c j e = omega (arith, ltb-true n (node_count below) c)
  moved_lt_at false a below after g n o p c j e =
      let m = mapped-some (λ f. tree a below f) p g e in omega (arith, ltb-false n (node_count below) c, j m.0 m.1)

  -- a move is at a node that is there
  pub moved_at_lt : (rule : Rule) (before f : Forest A) (n : ℕ) (g : Forest A)
      → moved_at noted same rule before f n ≡ Some g → n < node_count f
  moved_at_lt rule before empty n g e = absurd cc
  moved_at_lt rule before (tree a below after) zero g e = omega arith
  moved_at_lt rule before (tree a below after) (suc n) g e =
      moved_lt_at (ltb n (node_count below)) a below after g n (moved_at noted same rule empty below n)
      (moved_at noted same rule (before ⊹ tree a below empty) after (n - node_count below)) refl
      (moved_at_lt rule (before ⊹ tree a below empty) after (n - node_count below)) e

  -- a move below the first node
  moved_under : (rule : Rule) (before : Forest A) (a : A) (below after g : Forest A) (n : ℕ) → moved_at noted same rule
      empty below n ≡ Some g → moved_at noted same rule before (tree a below after) (suc n) ≡ Some (tree a g after)
  moved_under rule before a below after g n m =
      rw (lt-ltb n (node_count below) (moved_at_lt rule empty below n g m), m) refl

  -- and among those after the first tree
  moved_beyond : (rule : Rule) (before : Forest A) (a : A) (below after g : Forest A) (n : ℕ)
      → moved_at noted same rule (before ⊹ tree a below empty) after n ≡ Some g
      → moved_at noted same rule before (tree a below after) (suc (node_count below + n)) ≡ Some (tree a below g)
  moved_beyond rule before a below after g n m =
      let l : node_count below ≤ node_count below + n = omega arith in
      let d : (node_count below + n) - node_count below ≡ n = omega arith in
      rw (le-ltb (node_count below + n) (node_count below) l, d, m) refl

  step_moved_at : {f g : Forest A} (before : Forest A) → ForestRewrite noted f g
      → (rule : Rule) × (of_two rule ≡ true) × (n : ℕ) × (moved_at noted same rule before f n ≡ Some g)
  step_moved_at before (dropped n) = (Drop, refl, 0, rw n refl)
  step_moved_at before (lifted n) = (Lift, refl, 0, rw n refl)
  step_moved_at before (inside {a = a} {f = f} {g = g} {after = after} s) =
      let m = step_moved_at empty s in (m.0, m.1, suc m.2, moved_under m.0 before a f after g m.2 m.3)
  step_moved_at before (beside {a = a} {below = below} {f = f} {g = g} s) =
      let m = step_moved_at (before ⊹ tree a below empty) s in
      (m.0, m.1, suc (node_count below + m.2), moved_beyond m.0 before a below f g m.2 m.3)

  pub step_moved : (t u : Rose A) → RewriteBelow noted t u
      → (m : Move) × (of_two m.rule ≡ true) × (moved_by noted same m t ≡ Some u)
  step_moved t u s =
      let m = step_moved_at empty s.1 in (
        record { rule = m.0; position = suc m.2 },
        m.1,
        rw m.3
            (ap Some (sym (same_tree (record { root = t.root; below = u.below }) u s.0 refl))),
      )

  merge_step_moved_at : {before f g : Forest A} → MergeRewrite noted same before f g
      → (rule : Rule) × (n : ℕ) × (moved_at noted same rule before f n ≡ Some g)
  merge_step_moved_at {before = before} (condensed s) = let m = step_moved_at before s in (m.0, m.2, m.3)
  merge_step_moved_at (doubled h) = (Merge, 0, rw h refl)
  merge_step_moved_at {before = before} (deeper {f = f} {g = g} {after = after} {a = a} s) =
      let m = merge_step_moved_at s in (m.0, suc m.1, moved_under m.0 before a f after g m.1 m.2)
  merge_step_moved_at {before = before} (further {below = below} {f = f} {g = g} {a = a} s) =
      let m = merge_step_moved_at s in (m.0, suc (node_count below + m.1), moved_beyond m.0 before a below f g m.1 m.2)

  pub merge_step_moved : (t u : Rose A) → (u.root ≡ t.root) × MergeRewrite noted same empty t.below u.below
      → (m : Move) × (moved_by noted same m t ≡ Some u)
  merge_step_moved t u s =
      let m = merge_step_moved_at s.1 in (
        record { rule = m.0; position = suc m.1 },
        rw m.2
            (ap Some (sym (same_tree (record { root = t.root; below = u.below }) u s.0 refl))),
      )

  -- ---- runs

  pub replayed_run : (ms : List Move) (t u : Rose A) → all_of_two ms ≡ true
      → replayed_by noted same ms t ≡ Some u → RunBelow noted t u
  replayed_run [] t u r e = let h : t ≡ u = cc in rw h (refl, done)
  replayed_run (m ∷ ms) t u r e =
      let b = chained-some (replayed_by noted same ms) (moved_by noted same m t) u e in
      let s = moved_step m t b.0 (and_left (of_two m.rule) _ r) b.1 in
      let q = replayed_run ms b.0 u (and_right (of_two m.rule) _ r) b.2 in
      (q.0 ∙ s.0, next s.1 q.1)

  pub replayed_length : (ms : List Move) (t u : Rose A) → all_of_two ms ≡ true → replayed_by noted same ms t ≡ Some u
      → length ms + node_count u.below ≡ node_count t.below
  replayed_length [] t u r e = let h : t ≡ u = cc in rw h (omega arith)
  replayed_length (m ∷ ms) t u r e =
      let b = chained-some (replayed_by noted same ms) (moved_by noted same m t) u e in
      let s = moved_step m t b.0 (and_left (of_two m.rule) _ r) b.1 in
      omega (arith, step_takes_one noted s.1, replayed_length ms b.0 u (and_right (of_two m.rule) _ r) b.2)

  pub replayed_normal : (ms : List Move) (t u : Rose A) → all_of_two ms ≡ true → replayed_by noted same ms t ≡ Some u
      → NormalForest noted u.below → u ≡ kept_by noted t
  replayed_normal ms t u r e n = run-normal noted t u (replayed_run ms t u r e) n

  pub replayed_merge_run : (ms : List Move) (t u : Rose A) → replayed_by noted same ms t ≡ Some u
      → (u.root ≡ t.root) × MergeRun noted same empty t.below u.below
  replayed_merge_run [] t u e = let h : t ≡ u = cc in rw h (refl, ended)
  replayed_merge_run (m ∷ ms) t u e =
      let b = chained-some (replayed_by noted same ms) (moved_by noted same m t) u e in
      let s = moved_merge_step m t b.0 b.1 in
      let q = replayed_merge_run ms b.0 u b.2 in
      (q.0 ∙ s.0, then_on s.1 q.1)

  -- each move leaves at least one node less
  pub replayed_bound : (ms : List Move) (t u : Rose A) → replayed_by noted same ms t ≡ Some u
      → length ms + node_count u.below ≤ node_count t.below
  replayed_bound [] t u e = let h : t ≡ u = cc in rw h (omega arith)
  replayed_bound (m ∷ ms) t u e =
      let b = chained-some (replayed_by noted same ms) (moved_by noted same m t) u e in
      let s = moved_merge_step m t b.0 b.1 in
      omega (arith, merge_step_leaves_fewer noted same s.1, replayed_bound ms b.0 u b.2)

  replayed-append : (ms ns : List Move) (t : Rose A)
      → replayed_by noted same (ms ++ ns) t ≡ chained (replayed_by noted same ns) (replayed_by noted same ms t)
  replayed-append [] ns t = refl
  replayed-append (m ∷ ms) ns t =
      chained_alike (replayed_by noted same (ms ++ ns)) (λ u. chained (replayed_by noted same ns)
      (replayed_by noted same ms u)) (moved_by noted same m t) (replayed-append ms ns)
      ∙ sym (chained-chained (replayed_by noted same ns) (replayed_by noted same ms) (moved_by noted same m t))

  -- one move more
  pub replayed_more : (ms : List Move) (i : ℕ) (d : Move) (t u : Rose A) → i < length ms → replayed_by noted same
      (take i ms) t ≡ Some u → replayed_by noted same (take (i + 1) ms) t ≡ moved_by noted same (get_or ms i d) u
  replayed_more ms i d t u h e =
      rw (add-one, take-suc ms i d h, replayed-append (take i ms) (get_or ms i d ∷ []) t, e)
      (chained-Some (moved_by noted same (get_or ms i d) u))
