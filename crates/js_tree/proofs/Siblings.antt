-- A move at a node of one of several trees that stand side by side.
use Rattle.std.proofs.Common.{◌≡◌, ◌≢◌, ℕ, suc, ◌+◌, ◌≤◌, ◌<◌, ◌-◌, Bool, true, false, ◌⊎◌, inl, inr, List}
use Rattle.std.proofs.Common.{[], ◌∷◌, ◌++◌, length, take, drop, get_or, set, Option, Some, None}
use Rattle.std.proofs.Common.{if◌then◌else◌, refl, ap, sym, subst, ◌∙◌, arith}
use Rattle.std.proofs.lemmas.Bool.{lt-ltb, le-ltb}
use Rattle.js_tree.specs.Forest.{Forest, empty, tree, Rose, forest_of, ◌⊹◌, node_count}
use Rattle.js_tree.specs.Merged.{has_alike}
use Rattle.js_tree.specs.Rewrite.{node_stands}
use Rattle.js_tree.specs.Moves.{mapped, without_leaf, with_only_child, moved_first, moved_at}
use Rattle.js_tree.specs.declared.reducing.moves.Rule.{Rule}
use Rattle.js_tree.specs.declared.reducing.moves.Rule.TheVariants.{Drop, Lift, Merge}
use Rattle.js_tree.proofs.Forests.{append-empty, append-append, around, replaced, forest_of-append}
use Rattle.js_tree.proofs.MovesAreRewrites.{moved_at_lt}

mapped-id : {A : Type 0} (o : Option A) → mapped (λ x. x) o ≡ o
mapped-id None = refl
mapped-id (Some x) = refl

mapped-mapped : {A B C : Type 0} (f : B → C) (g : A → B) (o : Option A)
    → mapped f (mapped g o) ≡ mapped (λ x. f (g x)) o
mapped-mapped f g None = refl
mapped-mapped f g (Some x) = refl

module _ {A : Type 0} (noted : A → Bool) where
  without_leaf_none : (a : A) (us : List (Rose A)) (after : Forest A) → (noted a ≡ true) ⊎ (us ≢ [])
      → without_leaf noted a (forest_of us) after ≡ None
  without_leaf_none a [] after (inl n) = rw n refl
  without_leaf_none a [] after (inr l) = absurd (l refl)
  without_leaf_none a (u ∷ us) after n = refl

  without_leaf_some : (a : A) (us : List (Rose A)) (after : Forest A) → noted a ≡ false → us ≡ []
      → without_leaf noted a (forest_of us) after ≡ Some after
  without_leaf_some a us after n e = rw (e, n) refl

  with_only_child_none : (a : A) (us : List (Rose A)) → (noted a ≡ true) ⊎ (length us ≢ 1)
      → with_only_child noted a (forest_of us) empty ≡ None
  with_only_child_none a [] n = refl
  with_only_child_none a (u ∷ []) (inl n) = rw n refl
  with_only_child_none a (u ∷ []) (inr l) = absurd (l refl)
  with_only_child_none a (u ∷ v ∷ us) n = refl

  pub no_only_child : (t : Rose A) (a : A) (us : List (Rose A)) → record { root = a; below = forest_of us } ≡ t
      → (noted a ≡ true) ⊎ (length us ≢ 1) → with_only_child noted t.root t.below empty ≡ None
  no_only_child t a us e n = rw (← e) (with_only_child_none a us n)

  only_child_lifted : (a : A) (us : List (Rose A)) (new : Rose A) (b : Bool) → noted a ≡ false → length us ≡ 1
      → (if node_stands noted a (forest_of us) then tree a (forest_of us) empty else forest_of us)
      ≡ (if b then tree new.root new.below empty else empty)
      → (with_only_child noted a (forest_of us) empty
      ≡ (if b then Some (tree new.root new.below empty) else None)) × (b ≡ true)
  only_child_lifted a [] new b n l h = absurd cc
  only_child_lifted a (u ∷ []) new true n l h = let k = rw n at h in (rw n (ap Some k), refl)
  only_child_lifted a (u ∷ []) new false n l h = let k = rw n at h in absurd cc
  only_child_lifted a (u ∷ v ∷ us) new b n l h = absurd cc

  -- a node without a note doesn't stand over its only child
  pub only_child_lifts : (t new : Rose A) (a : A) (us : List (Rose A)) (b : Bool)
      → record { root = a; below = forest_of us } ≡ t → noted a ≡ false → length us ≡ 1
      → (if node_stands noted t.root t.below then tree t.root t.below empty else t.below)
      ≡ (if b then tree new.root new.below empty else empty)
      → (with_only_child noted t.root t.below empty
      ≡ (if b then Some (tree new.root new.below empty) else None)) × (b ≡ true)
  only_child_lifts t new a us b e n l h =
      subst (λ s. (with_only_child noted s.root s.below empty
      ≡ (if b then Some (tree new.root new.below empty) else None)) × (b ≡ true)) e
      (only_child_lifted a us new b n l (subst (λ s. (if node_stands noted s.root s.below then tree s.root s.below empty
      else s.below) ≡ (if b then tree new.root new.below empty else empty)) (sym e) h))

  with_only_child_some : (v : Bool) (a : A) (f g after : Forest A) → noted a ≡ v
      → with_only_child noted a f empty ≡ Some g → with_only_child noted a f after ≡ Some (g ⊹ after)
  with_only_child_some v a empty g after n e = absurd cc
  with_only_child_some true a (tree b below empty) g after n e = let h = rw n at e in absurd cc
  with_only_child_some false a (tree b below empty) g after n e =
      let k : tree b below empty ≡ g = (let h = rw n at e in cc) in rw (n, ← k) refl
  with_only_child_some v a (tree b below (tree c under others)) g after n e = absurd cc

  with_only_child_not : (v : Bool) (a : A) (f after : Forest A) → noted a ≡ v → with_only_child noted a f empty ≡ None
      → with_only_child noted a f after ≡ None
  with_only_child_not v a empty after n e = refl
  with_only_child_not true a (tree b below empty) after n e = rw n refl
  with_only_child_not false a (tree b below empty) after n e = let h = rw n at e in absurd cc
  with_only_child_not v a (tree b below (tree c under others)) after n e = refl

module _ {A : Type 0} (noted : A → Bool) (same : A → A → Bool) where
  -- a move past the first trees
  moved_at_later : (rule : Rule) (before f g : Forest A) (n : ℕ) → moved_at noted same rule before (f ⊹ g)
      (node_count f + n) ≡ mapped (λ h. f ⊹ h) (moved_at noted same rule (before ⊹ f) g n)
  moved_at_later rule before empty g n =
      let z : 0 + n ≡ n = omega arith in
      rw (z, append-empty before) (sym (mapped-id (moved_at noted same rule before g n)))
  moved_at_later rule before (tree a below after) g n =
      let s : suc (node_count below + node_count after) + n
      ≡ suc (node_count below + (node_count after + n)) = omega arith in
      let l : node_count below ≤ node_count below + (node_count after + n) = omega arith in
      let d : (node_count below + (node_count after + n)) - node_count below ≡ node_count after + n = omega arith in
      rw (
        s,
        le-ltb (node_count below + (node_count after + n)) (node_count below) l,
        d,
        moved_at_later rule
            (before ⊹ tree a below empty) after g n,
        append-append before (tree a below empty) after,
      )
      (mapped-mapped (tree a below) (λ h. after ⊹ h) (moved_at noted same rule (before ⊹ tree a below after) g n))

  -- at the tree at i, or below it
  moved_in : (rule : Rule) (ts : List (Rose A)) (i n : ℕ) (d : Rose A) → i < length ts
      → moved_at noted same rule empty (forest_of ts) (node_count (forest_of (take i ts)) + n)
      ≡ mapped (λ h. forest_of (take i ts) ⊹ h) (moved_at noted same rule (forest_of (take i ts))
      (tree (get_or ts i d).root (get_or ts i d).below (forest_of (drop (i + 1) ts))) n)
  moved_in rule ts i n d h =
      ap (λ f. moved_at noted same rule empty f (node_count (forest_of (take i ts)) + n)) (around ts i d h)
      ∙ moved_at_later rule empty (forest_of (take i ts))
      (tree (get_or ts i d).root (get_or ts i d).below (forest_of (drop (i + 1) ts))) n

  moved_there : (rule : Rule) (ts : List (Rose A)) (i : ℕ) (d : Rose A) → i < length ts
      → moved_at noted same rule empty (forest_of ts) (node_count (forest_of (take i ts)))
      ≡ mapped (λ h. forest_of (take i ts) ⊹ h) (moved_first noted same rule (forest_of (take i ts))
      (get_or ts i d).root (get_or ts i d).below (forest_of (drop (i + 1) ts)))
  moved_there rule ts i d h = let z : node_count (forest_of (take i ts)) + 0
      ≡ node_count (forest_of (take i ts)) = omega arith in rw z at (moved_in rule ts i 0 d h)

  -- ---- dropping

  pub not_dropped : (ts : List (Rose A)) (i : ℕ) (d : Rose A) (a : A) (us : List (Rose A)) → i < length ts
      → record { root = a; below = forest_of us } ≡ get_or ts i d → (noted a ≡ true) ⊎ (us ≢ [])
      → moved_at noted same Drop empty (forest_of ts) (node_count (forest_of (take i ts))) ≡ None
  not_dropped ts i d a us h e n = moved_there Drop ts i d h
      ∙ rw (← e, without_leaf_none noted a us (forest_of (drop (i + 1) ts)) n) refl

  pub dropped : (ts : List (Rose A)) (i : ℕ) (d : Rose A) (a : A) (us : List (Rose A)) → i < length ts
      → record { root = a; below = forest_of us } ≡ get_or ts i d → noted a ≡ false → us ≡ []
      → moved_at noted same Drop empty (forest_of ts) (node_count (forest_of (take i ts)))
      ≡ Some (forest_of (take i ts ++ drop (i + 1) ts))
  dropped ts i d a us h e n l =
      moved_there Drop ts i d h ∙ rw (
        ← e,
        without_leaf_some noted a us (forest_of (drop (i + 1) ts)) n l,
        forest_of-append (take i ts) (drop (i + 1) ts),
      ) refl

  -- ---- lifting

  pub lifted : (ts : List (Rose A)) (i : ℕ) (d t : Rose A) → i < length ts
      → with_only_child noted (get_or ts i d).root (get_or ts i d).below empty ≡ Some (tree t.root t.below empty)
      → moved_at noted same Lift empty (forest_of ts) (node_count (forest_of (take i ts)))
      ≡ Some (forest_of (set ts i t))
  lifted ts i d t h e =
      let r = with_only_child_some noted (noted (get_or ts i d).root) (get_or ts i d).root (get_or ts i d).below
      (tree t.root t.below empty) (forest_of (drop (i + 1) ts)) refl e in
      moved_there Lift ts i d h ∙ ap (mapped (λ f. forest_of (take i ts) ⊹ f)) r ∙ ap Some (sym (replaced ts i t h))

  pub not_lifted : (ts : List (Rose A)) (i : ℕ) (d : Rose A) → i < length ts
      → with_only_child noted (get_or ts i d).root (get_or ts i d).below empty ≡ None
      → moved_at noted same Lift empty (forest_of ts) (node_count (forest_of (take i ts))) ≡ None
  not_lifted ts i d h e =
      let r = with_only_child_not noted (noted (get_or ts i d).root) (get_or ts i d).root (get_or ts i d).below
      (forest_of (drop (i + 1) ts)) refl e in
      moved_there Lift ts i d h ∙ ap (mapped (λ f. forest_of (take i ts) ⊹ f)) r

  -- ---- merging

  pub alike_gone : (ts : List (Rose A)) (i : ℕ) (d : Rose A) → i < length ts
      → has_alike same (forest_of (take i ts)) (get_or ts i d).root (get_or ts i d).below ≡ true
      → moved_at noted same Merge empty (forest_of ts) (node_count (forest_of (take i ts)))
      ≡ Some (forest_of (take i ts ++ drop (i + 1) ts))
  alike_gone ts i d h e = moved_there Merge ts i d h ∙ rw (e, forest_of-append (take i ts) (drop (i + 1) ts)) refl

  pub none_alike : (ts : List (Rose A)) (i : ℕ) (d : Rose A) → i < length ts
      → has_alike same (forest_of (take i ts)) (get_or ts i d).root (get_or ts i d).below ≡ false
      → moved_at noted same Merge empty (forest_of ts) (node_count (forest_of (take i ts))) ≡ None
  none_alike ts i d h e = moved_there Merge ts i d h ∙ rw e refl

  -- ---- below one of the trees

  pub moved_inside : (rule : Rule) (ts : List (Rose A)) (i n : ℕ) (d t : Rose A) → i < length ts
      → t.root ≡ (get_or ts i d).root → moved_at noted same rule empty (get_or ts i d).below n ≡ Some t.below
      → moved_at noted same rule empty (forest_of ts) (node_count (forest_of (take i ts)) + suc n)
      ≡ Some (forest_of (set ts i t))
  moved_inside rule ts i n d t h e m =
      let l = lt-ltb n (node_count (get_or ts i d).below)
      (moved_at_lt noted same rule empty (get_or ts i d).below n t.below m) in
      moved_in rule ts i (suc n) d h ∙ rw (l, m, replaced ts i t h, e) refl

  pub not_moved_inside : (rule : Rule) (ts : List (Rose A)) (i n : ℕ) (d : Rose A) → i < length ts
      → n < node_count (get_or ts i d).below → moved_at noted same rule empty (get_or ts i d).below n ≡ None
      → moved_at noted same rule empty (forest_of ts) (node_count (forest_of (take i ts)) + suc n) ≡ None
  not_moved_inside rule ts i n d h l m =
      let k = lt-ltb n (node_count (get_or ts i d).below) l in moved_in rule ts i (suc n) d h ∙ rw (k, m) refl

  not_moved_further : (o : Option (Forest A)) (rule : Rule) (f : Forest A) (n : ℕ)
      → moved_at noted same rule empty f n ≡ o → node_count f ≤ n → o ≡ None
  not_moved_further None rule f n e h = refl
  not_moved_further (Some g) rule f n e h = let m = moved_at_lt noted same rule empty f n g e in absurd (omega arith)

  -- no node of the forest has the number
  pub moved_at_none : (rule : Rule) (f : Forest A) (n : ℕ) → node_count f ≤ n
      → moved_at noted same rule empty f n ≡ None
  moved_at_none rule f n h = not_moved_further (moved_at noted same rule empty f n) rule f n refl h
