-- Rows of trees side by side, gone through tree by tree.
use Rattle.std.proofs.Common.{◌≡◌, ℕ, zero, suc, ◌+◌, ◌-◌, ◌≤◌, ◌<◌, List, [], ◌∷◌, ◌++◌, length}
use Rattle.std.proofs.Common.{take, drop, map, get_or, refl, ap, sym, ◌∙◌, arith}
use Rattle.std.proofs.lemmas.List.{append_assoc, append-nil, length-append, length-map}
use Rattle.std.proofs.lemmas.List.{length-drop, length-take, drop_more}
use Rattle.js_tree.specs.Flat.{flat_form, flat_of}
use Rattle.js_tree.specs.FlatState.{FlatRow}
use Rattle.js_tree.specs.Forest.{Forest, empty, tree, ◌⊹◌, node_count}
use Rattle.js_tree.specs.OutputUnit.{OutputUnit}
use Rattle.js_tree.specs.Result.{ResultTree}
use Rattle.js_tree.proofs.FlatFormCollected.{length-flat_of}

pub flat_of-append : (f g : Forest OutputUnit) → flat_of (f ⊹ g) ≡ flat_of f ++ flat_of g
flat_of-append empty g = refl
flat_of-append (tree u below after) g =
    ap (λ xs. (u, suc (node_count below)) ∷ (flat_of below ++ xs)) (flat_of-append after g)
    ∙ ap (λ xs. (u, suc (node_count below)) ∷ xs) (sym (append_assoc (flat_of below) (flat_of after) (flat_of g)))

pub map-drop : {R : Type 0} (row_of : R → FlatRow) (n : ℕ) (rows : List R)
    → map row_of (drop n rows) ≡ drop n (map row_of rows)
map-drop row_of zero rows = refl
map-drop row_of (suc n) [] = refl
map-drop row_of (suc n) (r ∷ rows) = map-drop row_of n rows

pub drop-append : {A : Type 0} (xs ys : List A) → drop (length xs) (xs ++ ys) ≡ ys
drop-append [] ys = refl
drop-append (x ∷ xs) ys = drop-append xs ys

drop_none : {R : Type 0} (n : ℕ) (rows : List R) → rows ≡ [] → drop n rows ≡ []
drop_none zero rows e = e
drop_none (suc n) [] e = refl
drop_none (suc n) (r ∷ rows) e = absurd cc

pub drop-drop : {R : Type 0} (n m : ℕ) (xs : List R) → drop (n + m) xs ≡ drop m (drop n xs)
drop-drop zero m xs = let z : 0 + m ≡ m = omega arith in rw z refl
drop-drop (suc n) m [] = drop_none (suc n + m) [] refl ∙ sym (drop_none m [] refl)
drop-drop (suc n) m (x ∷ xs) = let z : suc n + m ≡ suc (n + m) = omega arith in rw z (drop-drop n m xs)

-- ---- the tree whose rows come next

map-take : {R : Type 0} (row_of : R → FlatRow) (n : ℕ) (rows : List R)
    → map row_of (take n rows) ≡ take n (map row_of rows)
map-take row_of zero rows = refl
map-take row_of (suc n) [] = refl
map-take row_of (suc n) (r ∷ rows) = ap (λ xs. row_of r ∷ xs) (map-take row_of n rows)

take-append : {A : Type 0} (xs ys : List A) → take (length xs) (xs ++ ys) ≡ xs
take-append [] ys = refl
take-append (x ∷ xs) ys = ap (λ zs. x ∷ zs) (take-append xs ys)

pub record FirstTree {R : Type 0} (row_of : R
    → FlatRow) (rows : List R) (n : ℕ) (f : Forest OutputUnit) (x : R) : Type 0 where
  pub unit : OutputUnit
  pub below : Forest OutputUnit
  pub after : Forest OutputUnit
  pub is : f ≡ tree unit below after
  pub unit_is : (row_of x).0 ≡ unit
  pub size : (row_of x).1 ≡ suc (node_count below)
  pub fits : n + (row_of x).1 ≤ length rows
  pub next : map row_of (drop (n + 1) rows) ≡ flat_of below ++ flat_of after
  -- the rows of the tree, those below its root, and those after it
  pub all : map row_of (take (row_of x).1 (drop n rows)) ≡ flat_of (tree unit below empty)
  pub inside : map row_of (take ((row_of x).1 - 1) (drop (n + 1) rows)) ≡ flat_of below
  pub more : map row_of (drop (n + (row_of x).1) rows) ≡ flat_of after

cons_head : (x y : FlatRow) (xs ys : List FlatRow) → x ∷ xs ≡ y ∷ ys → x ≡ y
cons_head x y xs ys e = cc

cons_tail : (x y : FlatRow) (xs ys : List FlatRow) → x ∷ xs ≡ y ∷ ys → xs ≡ ys
cons_tail x y xs ys e = cc

front : {R : Type 0} (row_of : R → FlatRow) (rows : List R) (fs gs : List FlatRow) (n : ℕ) → map row_of rows ≡ fs ++ gs
    → n ≡ length fs → map row_of (take n rows) ≡ fs
front row_of rows fs gs n e l = map-take row_of n rows
    ∙ (ap (take n) e ∙ (ap (λ m. take m (fs ++ gs)) l ∙ take-append fs gs))

back : {R : Type 0} (row_of : R → FlatRow) (rows : List R) (fs gs : List FlatRow) (n : ℕ) → map row_of rows ≡ fs ++ gs
    → n ≡ length fs → map row_of (drop n rows) ≡ gs
back row_of rows fs gs n e l = map-drop row_of n rows
    ∙ (ap (drop n) e ∙ (ap (λ m. drop m (fs ++ gs)) l ∙ drop-append fs gs))

pub first_tree : {R : Type 0} (row_of : R → FlatRow) (rows : List R) (n : ℕ) (f : Forest OutputUnit) (x : R)
    → map row_of (drop n rows) ≡ flat_of f → n < length rows → x ≡ get_or rows n x → FirstTree row_of rows n f x
first_tree row_of rows n empty x e h is = let p : row_of (get_or rows n x) ∷ map row_of (drop (n + 1) rows)
    ≡ [] = ap (map row_of) (sym (drop_more rows n x h)) ∙ e in absurd cc
first_tree row_of rows n (tree u below after) x e h is =
    let p : row_of (get_or rows n x) ∷ map row_of (drop (n + 1) rows) ≡ (u, suc (node_count below))
    ∷ (flat_of below ++ flat_of after) = ap (map row_of) (sym (drop_more rows n x h)) ∙ e in
    let q : row_of x ≡ (u, suc (node_count below)) = ap row_of is ∙ cons_head (row_of (get_or rows n x))
    (u, suc (node_count below)) (map row_of (drop (n + 1) rows)) (flat_of below ++ flat_of after) p in
    let t : map row_of (drop (n + 1) rows) ≡ flat_of below ++ flat_of after = cons_tail (row_of (get_or rows n x))
    (u, suc (node_count below)) (map row_of (drop (n + 1) rows)) (flat_of below ++ flat_of after) p in
    let s : (row_of x).1 ≡ suc (node_count below) = ap (λ y. y.1) q in
    let l : length (map row_of (drop n rows)) ≡ suc (length (flat_of below ++ flat_of after)) = ap length e in
    let below_size = length-flat_of below in
    let both : map row_of (drop n rows) ≡ ((u, suc (node_count below)) ∷ flat_of below) ++ flat_of after = e in
    record {
      unit = u;
      below = below;
      after = after;
      is = refl;
      unit_is = ap (λ y. y.0) q;
      size = s;
      fits = omega (
        arith,
        s,
        l,
        h,
        length-map (drop n rows) row_of,
        length-drop n rows,
        length-append (flat_of below)
            (flat_of after),
        below_size,
      );
      next = t;
      all =
          front row_of (drop n rows) ((u, suc (node_count below)) ∷ flat_of below) (flat_of after) (row_of x).1 both
          (omega (arith, s, below_size))
          ∙ ap (λ xs. (u, suc (node_count below)) ∷ xs) (sym (append-nil (flat_of below)));
      inside = front row_of (drop (n + 1) rows) (flat_of below) (flat_of after) ((row_of x).1 - 1) t
          (omega (arith, s, below_size));
      more =
          ap (map row_of) (drop-drop n (row_of x).1 rows)
          ∙ back row_of (drop n rows) ((u, suc (node_count below)) ∷ flat_of below) (flat_of after) (row_of x).1 both
          (omega (arith, s, below_size));
    }

-- no row is left of no tree, and no tree of no row
pub all_gone : {R : Type 0} (row_of : R → FlatRow) (rows : List R) (n : ℕ) (f : Forest OutputUnit)
    → map row_of (drop n rows) ≡ flat_of f → length rows ≤ n → f ≡ empty
all_gone row_of rows n empty e h = refl
all_gone row_of rows n (tree u below after) e h =
    let l : length (map row_of (drop n rows)) ≡ suc (length (flat_of below ++ flat_of after)) = ap length e in
    absurd (omega (arith, l, h, length-map (drop n rows) row_of, length-drop n rows))

-- ---- the rows of one tree

pub root_row : {R : Type 0} (row_of : R → FlatRow) (rows : List R) (t : ResultTree) (x : R)
    → map row_of rows ≡ flat_form t → x ≡ get_or rows 0 x → (row_of x).0 ≡ t.root
root_row row_of [] t x e is = absurd cc
root_row row_of (r ∷ rows) t x e is = let k : row_of r ≡ (t.root, suc (node_count t.below)) = cc in
    ap (λ y. (row_of y).0) is ∙ ap (λ y. y.0) k

pub rows_below : {R : Type 0} (row_of : R → FlatRow) (rows : List R) (t : ResultTree) → map row_of rows ≡ flat_form t
    → map row_of (drop 1 rows) ≡ flat_of t.below
rows_below row_of [] t e = absurd cc
rows_below row_of (r ∷ rows) t e = let k : map row_of rows ≡ flat_of t.below = cc in k

no_nodes : (f : Forest OutputUnit) → node_count f ≡ 0 → f ≡ empty
no_nodes empty e = refl
no_nodes (tree u below after) e = absurd cc

-- one row is that of a node without children
pub none_below : {R : Type 0} (row_of : R → FlatRow) (rows : List R) (t : ResultTree) → map row_of rows ≡ flat_form t
    → length rows ≡ 1 → t.below ≡ empty
none_below row_of rows t e n =
    no_nodes t.below (omega (arith, n, ap length e, length-map rows row_of, length-flat_of t.below))

-- ---- a tree whose rows come next, by its unit alone

pub record SomeTree (f : Forest OutputUnit) : Type 0 where
  pub unit : OutputUnit
  pub below : Forest OutputUnit
  pub after : Forest OutputUnit
  pub is : f ≡ tree unit below after

pub some_tree : {R : Type 0} (row_of : R → FlatRow) (rows : List R) (n : ℕ) (f : Forest OutputUnit)
    → map row_of (drop n rows) ≡ flat_of f → n < length rows → SomeTree f
some_tree row_of rows n empty e h =
    absurd (omega (arith, h, ap length e, length-map (drop n rows) row_of, length-drop n rows))
some_tree row_of rows n (tree u below after) e h = record { unit = u; below = below; after = after; is = refl }

pub shorter : {R : Type 0} (n m : ℕ) (rows : List R) → length (take n (drop m rows)) ≤ length rows
shorter n m rows = omega (arith, length-take n (drop m rows), length-drop m rows)
