-- Trees that are left are moved to the front of a list, one after another: what the front is then the forest of.
use Rattle.std.proofs.Common.{◌≡◌, ℕ, zero, suc, ◌+◌, ◌≤◌, ◌<◌, Bool, true, false, if◌then◌else◌, ◌⊎◌, inl, inr, List}
use Rattle.std.proofs.Common.{[], ◌∷◌, ◌++◌, length, take, drop, get_or, set, refl, ap, sym, ◌∙◌, arith, add-one}
use Rattle.std.proofs.Math.Nat.{eq-or-lt_of_le}
use Rattle.std.proofs.Math.Seq.{take-suc-set, take-suc}
use Rattle.std.proofs.lemmas.List.{take-set, take-set-le, drop-set-lt, get_or-set_same, length-set}
use Rattle.std.proofs.lemmas.List.Edits.{swap_is}
use Rattle.std.specs.List.{swap}
use Rattle.js_tree.specs.Forest.{Forest, empty, tree, Rose, forest_of, ◌⊹◌, node_count, tree_count}
use Rattle.js_tree.specs.Rewrite.{at_least_two, node_stands}
use Rattle.js_tree.specs.Kept.{is_kept_node, kept_below}
use Rattle.js_tree.specs.Pruned.{pruned_below}
use Rattle.js_tree.proofs.Forests.{append-empty, append-append, fewer_nodes, forest_of-append, same_after, same_at}
use Rattle.js_tree.proofs.Forests.{tree_count-forest_of}
use Rattle.js_tree.proofs.Rewrites.{or_right}
use Rattle.js_tree.proofs.KeptTree.{tree_count-kept_below}

-- ---- a swap to the front

module _ {A : Type 0} where
  set_twice : (ts : List A) (c i : ℕ) (x y : A) → (c ≡ i) ⊎ (c < i) → i < length ts → (c ≡ i → y ≡ x)
      → take (suc c) (set (set ts c x) i y) ≡ take c ts ++ (x ∷ [])
  set_twice ts c i x y (inl e) h s =
      let m : c < length (set ts c x) = simp length-set (omega arith) in
      rw (← e, take-suc-set (set ts c x) c y m, take-set ts c x, s e) refl
  set_twice ts c i x y (inr l) h s =
      let k : suc c ≤ i = omega arith in
      let m : c < length ts = omega arith in
      take-set-le (suc c) (set ts c x) i y k ∙ take-suc-set ts c x m

  pub take-swap : (ts : List A) (c i : ℕ) (d : A) → c ≤ i → i < length ts
      → take (c + 1) (swap ts c i) ≡ take c ts ++ (get_or ts i d ∷ [])
  take-swap ts c i d l h =
      let m : c < length ts = omega arith in
      rw (add-one, ← swap_is ts c i d m h)
      (set_twice ts c i (get_or ts i d) (get_or ts c d) (eq-or-lt_of_le l) h (λ e. ap (λ k. get_or ts k d) e))

  pub drop-swap : (ts : List A) (c i : ℕ) (d : A) → c ≤ i → i < length ts → drop (i + 1) (swap ts c i) ≡ drop (i + 1) ts
  drop-swap ts c i d l h =
      let m : c < length ts = omega arith in
      let p : c < i + 1 = omega arith in
      let q : i < i + 1 = omega arith in
      rw (← swap_is ts c i d m h) (drop-set-lt (i + 1) (set ts c (get_or ts i d)) i (get_or ts c d) q
      ∙ drop-set-lt (i + 1) ts c (get_or ts i d) p)

-- ---- one tree more, of a function that goes over trees one after another

module _ {A : Type 0} (F : Forest A → Forest A) (over : (f g : Forest A) → F (f ⊹ g) ≡ (F f ⊹ F g)) where
  one_tree_more : (ts : List (Rose A)) (i : ℕ) (d : Rose A) → i < length ts → F (forest_of (take (i + 1) ts))
      ≡ (F (forest_of (take i ts)) ⊹ F (tree (get_or ts i d).root (get_or ts i d).below empty))
  one_tree_more ts i d h = rw (add-one, take-suc ts i d h, forest_of-append (take i ts) (get_or ts i d ∷ []))
      (over (forest_of (take i ts)) (forest_of (get_or ts i d ∷ [])))

  one_left : (done ts : List (Rose A)) (i : ℕ) (d left : Rose A) → i < length ts
      → forest_of done ≡ F (forest_of (take i ts))
      → F (tree (get_or ts i d).root (get_or ts i d).below empty) ≡ tree left.root left.below empty
      → forest_of (done ++ (left ∷ [])) ≡ F (forest_of (take (i + 1) ts))
  one_left done ts i d left h k e =
      rw (one_tree_more ts i d h, e, ← k, forest_of-append done (left ∷ [])) refl

  none_left : (done ts : List (Rose A)) (i : ℕ) (d : Rose A) → i < length ts
      → forest_of done ≡ F (forest_of (take i ts)) → F (tree (get_or ts i d).root (get_or ts i d).below empty) ≡ empty
      → forest_of done ≡ F (forest_of (take (i + 1) ts))
  none_left done ts i d h k e =
      rw (one_tree_more ts i d h, e, ← k) (sym (append-empty (forest_of done)))

-- ---- trees that are gone through one after another, those that are left moved to the front

module _ {A : Type 0} where
  -- how the trees stand after i of them, where P holds of those that are left and those that were there
  abbrev pub MovedToFront : (List (Rose A) → List (Rose A) → Type 0) → List (Rose A) → List (Rose A) → ℕ → ℕ → Type 0
  MovedToFront P all ts count i = record {
    at_most : count ≤ i;
    front : P (take count ts) (take i all);
    rest : drop i ts ≡ drop i all;
  }

  pub moved_next : (P : List (Rose A) → List (Rose A) → Type 0) (all ts : List (Rose A)) (count i : ℕ) (d : Rose A)
      → MovedToFront P all ts count i → i < length ts → i < length all
      → P (take count ts ++ (get_or all i d ∷ [])) (take (i + 1) all)
      → MovedToFront P all (swap ts count i) (count + 1) (i + 1)
  moved_next P all ts count i d r m h p =
      let le = r.at_most in
      record {
        at_most = omega arith;
        front = rw (take-swap ts count i d le m, same_at ts all i d r.rest) p;
        rest = drop-swap ts count i d le m ∙ same_after ts all i d m h r.rest;
      }

  pub passed_next : (P : List (Rose A) → List (Rose A) → Type 0) (all ts : List (Rose A)) (count i : ℕ) (d : Rose A)
      → MovedToFront P all ts count i → i < length ts → i < length all → P (take count ts) (take (i + 1) all)
      → MovedToFront P all ts count (i + 1)
  passed_next P all ts count i d r m h p =
      let le = r.at_most in
      record { at_most = omega arith; front = p; rest = same_after ts all i d m h r.rest }

-- ---- trees that are reduced one after another

module _ {A : Type 0} (F : Forest A → Forest A) where
  abbrev pub Reduced : List (Rose A) → List (Rose A) → ℕ → ℕ → Type 0
  Reduced = MovedToFront (λ done seen. forest_of done ≡ F (forest_of seen))

module _ {A : Type 0} where
  -- the next tree has fewer nodes below its root than all of them
  pub fewer_in_next : (all ts : List (Rose A)) (i : ℕ) (d : Rose A) → drop i ts ≡ drop i all → i < length all
      → node_count (get_or ts i d).below < node_count (forest_of all)
  fewer_in_next all ts i d e h = rw (same_at ts all i d e) (fewer_nodes all i d h)

  rest-set : (all ts : List (Rose A)) (i : ℕ) (d new : Rose A) → i < length ts → i < length all
      → drop i ts ≡ drop i all → drop (i + 1) (set ts i new) ≡ drop (i + 1) all
  rest-set all ts i d new m h e =
      let past : i < i + 1 = omega arith in
      drop-set-lt (i + 1) ts i new past ∙ same_after ts all i d m h e

module _ {A : Type 0} (F : Forest A → Forest A) (over : (f g : Forest A) → F (f ⊹ g) ≡ (F f ⊹ F g)) where
  pub next_left : (all ts : List (Rose A)) (count i : ℕ) (d new : Rose A) → Reduced F all ts count i
      → i < length ts → i < length all
      → F (tree (get_or ts i d).root (get_or ts i d).below empty) ≡ tree new.root new.below empty
      → Reduced F all (swap (set ts i new) count i) (count + 1) (i + 1)
  next_left all ts count i d new r m h e =
      let one = set ts i new in
      let k : i < length one = simp length-set m in
      let le = r.at_most in
      record {
        at_most = omega arith;
        front = rw (take-swap one count i d le k, take-set-le count ts i new le, get_or-set_same ts i new d m)
            (one_left F over (take count ts) all i d new h r.front (rw (← same_at ts all i d r.rest) e));
        rest = drop-swap one count i d le k ∙ rest-set all ts i d new m h r.rest;
      }

  pub next_gone : (all ts : List (Rose A)) (count i : ℕ) (d new : Rose A) → Reduced F all ts count i
      → i < length ts → i < length all → F (tree (get_or ts i d).root (get_or ts i d).below empty) ≡ empty
      → Reduced F all (set ts i new) count (i + 1)
  next_gone all ts count i d new r m h e =
      let le = r.at_most in
      record {
        at_most = omega arith;
        front = rw (take-set-le count ts i new le)
            (none_left F over (take count ts) all i d h r.front (rw (← same_at ts all i d r.rest) e));
        rest = rest-set all ts i d new m h r.rest;
      }

-- ---- pruning

module _ {A : Type 0} (agrees : A → Bool) where
  pruned_before : (v : Bool) (a : A) (f g h : Forest A)
      → (if v then tree a f (g ⊹ h) else (g ⊹ h)) ≡ ((if v then tree a f g else g) ⊹ h)
  pruned_before true a f g h = refl
  pruned_before false a f g h = refl

  pub pruned_below-append : (f g : Forest A)
      → pruned_below agrees (f ⊹ g) ≡ (pruned_below agrees f ⊹ pruned_below agrees g)
  pruned_below-append empty g = refl
  pruned_below-append (tree a below after) g =
      rw (pruned_below-append after g)
      (pruned_before (agrees a) a (pruned_below agrees below) (pruned_below agrees after) (pruned_below agrees g))

-- ---- condensing

module _ {A : Type 0} (noted : A → Bool) where
  kept_before : (v : Bool) (a : A) (f g h : Forest A)
      → (if v then tree a f (g ⊹ h) else (f ⊹ (g ⊹ h))) ≡ ((if v then tree a f g else (f ⊹ g)) ⊹ h)
  kept_before true a f g h = refl
  kept_before false a f g h = sym (append-append f g h)

  pub kept_below-append : (f g : Forest A) → kept_below noted (f ⊹ g) ≡ (kept_below noted f ⊹ kept_below noted g)
  kept_below-append empty g = refl
  kept_below-append (tree a below after) g =
      rw (kept_below-append after g) (kept_before (is_kept_node noted a below) a (kept_below noted below)
      (kept_below noted after) (kept_below noted g))

  -- a node is kept exactly if it stands over what is kept below it
  kept_stands : (a : A) (f : Forest A) → node_stands noted a (kept_below noted f) ≡ is_kept_node noted a f
  kept_stands a f = rw (tree_count-kept_below noted f) refl

  pub one_stays : (a : A) (f g : Forest A) → g ≡ kept_below noted f → node_stands noted a g ≡ true
      → kept_below noted (tree a f empty) ≡ tree a g empty
  one_stays a f g e s = let k : is_kept_node noted a f ≡ true = sym (kept_stands a f) ∙ ap (node_stands noted a) (sym e)
      ∙ s in rw (k, ← e) refl

  pub one_goes : (a : A) (f g : Forest A) → g ≡ kept_below noted f → node_stands noted a g ≡ false
      → kept_below noted (tree a f empty) ≡ g
  one_goes a f g e s =
      let k : is_kept_node noted a f ≡ false = sym (kept_stands a f) ∙ ap (node_stands noted a) (sym e) ∙ s in
      rw (k, ← e) (append-empty g)

  one_left_by : (v : Bool) (a : A) (f g : Forest A) → g ≡ kept_below noted f → node_stands noted a g ≡ v
      → kept_below noted (tree a f empty) ≡ (if v then tree a g empty else g)
  one_left_by true a f g e s = one_stays a f g e s
  one_left_by false a f g e s = one_goes a f g e s

  -- what is left of a node, once it is known what is left below it
  pub one_lifted : (a : A) (f g : Forest A) → g ≡ kept_below noted f
      → kept_below noted (tree a f empty) ≡ (if node_stands noted a g then tree a g empty else g)
  one_lifted a f g e = one_left_by (node_stands noted a g) a f g e refl

  -- a node that doesn't stand has at most one child
  at_most_one : (n : ℕ) → at_least_two n ≡ false → n < 2
  at_most_one zero e = omega arith
  at_most_one (suc zero) e = omega arith
  at_most_one (suc (suc n)) e = cc

  pub few_children : (a : A) (ts : List (Rose A)) → node_stands noted a (forest_of ts) ≡ false → length ts < 2
  few_children a ts e =
      at_most_one (length ts) (ap at_least_two (sym (tree_count-forest_of ts))
      ∙ or_right (noted a) (at_least_two (tree_count (forest_of ts))) e)

module _ {A : Type 0} where
  -- the last of fewer than two is the only one
  pub only_last : (ts rest : List (Rose A)) (last : Rose A) → ts ≡ rest ++ (last ∷ []) → length ts < 2 → ts ≡ last ∷ []
  only_last ts [] last e h = e
  only_last ts (r ∷ []) last e h = let l : length ts ≡ 2 = ap length e in absurd (omega arith)
  only_last ts (r ∷ s ∷ rest) last e h =
      let l : length ts ≡ suc (suc (length (rest ++ (last ∷ [])))) = ap length e in absurd (omega arith)

module _ {A : Type 0} (noted : A → Bool) where
  -- the last child of a node that doesn't stand is what is left of it
  pub lifted_to : (t new : Rose A) (a : A) (ts rest : List (Rose A)) (last : Rose A)
      → record { root = a; below = forest_of ts } ≡ t → node_stands noted t.root t.below ≡ false
      → ts ≡ rest ++ (last ∷ []) → last ≡ new
      → (if node_stands noted t.root t.below then tree t.root t.below empty else t.below)
      ≡ tree new.root new.below empty
  lifted_to t new a ts rest last e s l n =
      let few = few_children noted a ts (ap (λ u. node_stands noted u.root u.below) e ∙ s) in
      rw s (ap (λ u. u.below) (sym e)
      ∙ (ap forest_of (only_last ts rest last l few) ∙ ap (λ u. tree u.root u.below empty) n))
