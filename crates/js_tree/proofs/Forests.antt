-- Facts about forests, and about the forest of a list of trees.
use Rattle.std.proofs.Common.{◌≡◌, ℕ, zero, suc, ◌+◌, ◌≤◌, ◌<◌, List, [], ◌∷◌, ◌++◌, length, take, drop}
use Rattle.std.proofs.Common.{get_or, set, refl, ap, sym, ◌∙◌, arith, add-one}
use Rattle.std.proofs.lemmas.List.{take-append-drop, drop_more, get_or-drop, set_split, set-get_or}
use Rattle.std.proofs.Math.Seq.{take-suc}
use Rattle.js_tree.specs.Forest.{Forest, empty, tree, Rose, forest_of, ◌⊹◌, node_count, tree_count}

module _ {A : Type 0} where
  pub append-empty : (f : Forest A) → (f ⊹ empty) ≡ f
  append-empty empty = refl
  append-empty (tree a below after) = ap (tree a below) (append-empty after)

  pub append-append : (f g h : Forest A) → ((f ⊹ g) ⊹ h) ≡ (f ⊹ (g ⊹ h))
  append-append empty g h = refl
  append-append (tree a below after) g h = ap (tree a below) (append-append after g h)

  pub tree_count-append : (f g : Forest A) → tree_count (f ⊹ g) ≡ tree_count f + tree_count g
  tree_count-append empty g = omega arith
  tree_count-append (tree a below after) g = omega (arith, tree_count-append after g)

  pub node_count-append : (f g : Forest A) → node_count (f ⊹ g) ≡ node_count f + node_count g
  node_count-append empty g = omega arith
  node_count-append (tree a below after) g = omega (arith, node_count-append after g)

  pub tree_count-forest_of : (ts : List (Rose A)) → tree_count (forest_of ts) ≡ length ts
  tree_count-forest_of [] = refl
  tree_count-forest_of (t ∷ ts) = ap suc (tree_count-forest_of ts)

  pub forest_of-append : (ts us : List (Rose A)) → forest_of (ts ++ us) ≡ (forest_of ts ⊹ forest_of us)
  forest_of-append [] us = refl
  forest_of-append (t ∷ ts) us = ap (tree t.root t.below) (forest_of-append ts us)

  -- two trees of one root and one forest below it are one
  pub same_tree : (t u : Rose A) → u.root ≡ t.root → u.below ≡ t.below → u ≡ t
  same_tree t u e f = ap (λ a. record { root = a; below = u.below }) e ∙ ap (λ b. record { root = t.root; below = b }) f

  -- ---- the tree at i of a list

  -- it has fewer nodes below its root than the list has
  pub fewer_nodes : (ts : List (Rose A)) (i : ℕ) (d : Rose A) → i < length ts
      → node_count (get_or ts i d).below < node_count (forest_of ts)
  fewer_nodes [] i d h = absurd (omega arith)
  fewer_nodes (t ∷ ts) zero d h = omega arith
  fewer_nodes (t ∷ ts) (suc i) d h = let k : i < length ts = omega arith in omega (arith, fewer_nodes ts i d k)

  -- and so have its children
  pub fewer_children : (ts : List (Rose A)) (i : ℕ) (d : Rose A) (a : A) (us vs : List (Rose A)) → us ≡ vs
      → record { root = a; below = forest_of vs } ≡ get_or ts i d → i < length ts
      → node_count (forest_of us) < node_count (forest_of ts)
  fewer_children ts i d a us vs e is h =
      let n : node_count (forest_of us) ≡ node_count (get_or ts i d).below = ap (λ ws. node_count (forest_of ws)) e
      ∙ ap (λ t. node_count t.below) is in
      omega (arith, n, fewer_nodes ts i d h)

  pub same_at : (ts us : List (Rose A)) (i : ℕ) (d : Rose A) → drop i ts ≡ drop i us → get_or ts i d ≡ get_or us i d
  same_at ts us i d e =
      let z : i + 0 ≡ i = omega arith in
      let l = rw z at (get_or-drop i ts 0 d) in
      let r = rw z at (get_or-drop i us 0 d) in
      sym l ∙ ap (λ x. get_or x 0 d) e ∙ r

  pub same_after : (ts us : List (Rose A)) (i : ℕ) (d : Rose A) → i < length ts → i < length us → drop i ts ≡ drop i us
      → drop (i + 1) ts ≡ drop (i + 1) us
  same_after ts us i d h k e = cc (drop_more ts i d h, drop_more us i d k, e)

  -- the trees before it, the tree, and those after it
  pub around : (ts : List (Rose A)) (i : ℕ) (d : Rose A) → i < length ts → forest_of ts
      ≡ (forest_of (take i ts) ⊹ tree (get_or ts i d).root (get_or ts i d).below (forest_of (drop (i + 1) ts)))
  around ts i d h =
      ap forest_of (sym (take-append-drop i ts)) ∙ forest_of-append (take i ts) (drop i ts)
      ∙ ap (λ us. forest_of (take i ts) ⊹ forest_of us) (drop_more ts i d h)

  -- another tree in its place
  pub replaced : (ts : List (Rose A)) (i : ℕ) (t : Rose A) → i < length ts
      → forest_of (set ts i t) ≡ (forest_of (take i ts) ⊹ tree t.root t.below (forest_of (drop (i + 1) ts)))
  replaced ts i t h = ap forest_of (set_split ts i t h)
      ∙ rw add-one (forest_of-append (take i ts) (t ∷ drop (suc i) ts))

  pub replaced_by_same : (ts : List (Rose A)) (i : ℕ) (d t : Rose A) → t.root ≡ (get_or ts i d).root
      → t.below ≡ (get_or ts i d).below → set ts i t ≡ ts
  replaced_by_same ts i d t e f = ap (set ts i) (same_tree (get_or ts i d) t e f) ∙ set-get_or ts i d

  pub nodes_through : (ts : List (Rose A)) (i : ℕ) (d : Rose A) → i < length ts → node_count
      (forest_of (take (i + 1) ts)) ≡ node_count (forest_of (take i ts)) + suc (node_count (get_or ts i d).below)
  nodes_through ts i d h =
      rw (
        add-one,
        take-suc ts i d h,
        forest_of-append (take i ts) (get_or ts i d ∷ []),
        node_count-append
            (forest_of (take i ts)) (forest_of (get_or ts i d ∷ [])),
      ) (omega arith)

  pub nodes_through_le : (ts : List (Rose A)) (i : ℕ) (d : Rose A) → i < length ts
      → node_count (forest_of (take i ts)) + suc (node_count (get_or ts i d).below) ≤ node_count (forest_of ts)
  nodes_through_le ts i d h =
      rw (
        around ts i d h,
        node_count-append (forest_of (take i ts))
            (tree (get_or ts i d).root (get_or ts i d).below (forest_of (drop (i + 1) ts))),
      ) (omega arith)

  pub nodes_before_lt : (ts : List (Rose A)) (i : ℕ) → i < length ts
      → node_count (forest_of (take i ts)) < node_count (forest_of ts)
  nodes_before_lt [] i h = absurd (omega arith)
  nodes_before_lt (t ∷ ts) zero h = omega arith
  nodes_before_lt (t ∷ ts) (suc i) h = let k : i < length ts = omega arith in omega (arith, nodes_before_lt ts i k)
