-- Where trees end, and whether rows are those of trees.
use Rattle.std.proofs.Common.{◌≡◌, ℕ, zero, suc, ◌+◌, ◌-◌, ◌≤◌, ◌<◌, Bool, true, false, ltb, ◌==◌, if◌then◌else◌}
use Rattle.std.proofs.Common.{List, [], ◌∷◌, length, drop, map, get_or, refl, ap, sym, ◌∙◌, arith}
use Rattle.std.proofs.lemmas.Bool.Decides.{nat_tests}
use Rattle.std.proofs.lemmas.Bool.{le-ltb, ltb-false}
use Rattle.std.proofs.lemmas.List.{drop_more}
use Rattle.js_tree.specs.Flat.{flat_form, flat_of}
use Rattle.js_tree.specs.FlatState.{row_of}
use Rattle.js_tree.specs.Forest.{Forest, empty, tree, ◌⊹◌, node_count}
use Rattle.js_tree.specs.code.Nesting.{ends_after}
use Rattle.js_tree.specs.OutputUnit.{OutputUnit}
use Rattle.js_tree.specs.Result.{ResultTree}
use Rattle.js_tree.specs.declared.collecting.flat.Row.{Row}
use Rattle.js_tree.proofs.FlatRows.{flat_of-append, map-drop, first_tree, all_gone}
use Rattle.js_tree.proofs.Marks.{from, flat_of-from, flat_form-flat_of, rows_of}

-- the trees in front, and those after them
pub record Parted (n : ℕ) (f : Forest OutputUnit) : Type 0 where
  pub before : Forest OutputUnit
  pub after : Forest OutputUnit
  pub is : f ≡ (before ⊹ after)
  pub count : node_count before ≡ n

ends_in : (v : Bool) (n c : ℕ) (after : Forest OutputUnit) → ltb n c ≡ v
    → (if v then false else ends_after (n - c) after) ≡ true → (c ≤ n) × (ends_after (n - c) after ≡ true)
ends_in true n c after l e = absurd cc
ends_in false n c after l e = (ltb-false n c l, e)

pub parted : (n : ℕ) (f : Forest OutputUnit) → ends_after n f ≡ true → Parted n f
parted zero f e = record { before = empty; after = f; is = refl; count = refl }
parted (suc n) empty e = absurd cc
parted (suc n) (tree u below after) e =
    let w = ends_in (ltb n (node_count below)) n (node_count below) after refl e in
    let p = parted (n - node_count below) after w.1 in
    record {
      before = tree u below p.before;
      after = p.after;
      is = ap (tree u below) p.is;
      count = omega (arith, w.0, p.count);
    }

pub ends_at : (n : ℕ) (u : OutputUnit) (below after : Forest OutputUnit) → suc (node_count below) ≤ n
    → ends_after n (tree u below after) ≡ ends_after (n - suc (node_count below)) after
ends_at zero u below after h = absurd (omega (arith, h))
ends_at (suc n) u below after h =
    let m : suc n - suc (node_count below) ≡ n - node_count below = omega arith in
    rw (m, le-ltb n (node_count below) (omega (arith, h))) refl

pub ends_there : (f g : Forest OutputUnit) → ends_after (node_count f) (f ⊹ g) ≡ true
ends_there empty g = refl
ends_there (tree u below after) g =
    let m : (suc (node_count below + node_count after)) - suc (node_count below) ≡ node_count after = omega arith in
    ends_at (suc (node_count below + node_count after)) u below (after ⊹ g) (omega arith)
    ∙ (ap (λ n. ends_after n (after ⊹ g)) m ∙ ends_there after g)

-- ---- the step at one of the trees

-- some nodes are still to come, and so the trees go on with one more
pub goes_on : (rows : List Row) (n left all : ℕ) (f g : Forest OutputUnit) (x : Row) → map row_of (drop n rows)
    ≡ flat_of g → n < length rows → x ≡ get_or rows n x → x.size ≤ left → ends_after left g ≡ ends_after all f
    → (h : Forest OutputUnit) × (map row_of (drop (n + x.size) rows) ≡ flat_of h)
    × (ends_after (left - x.size) h ≡ ends_after all f)
goes_on rows n left all f g x e lt is fits same =
    let t = first_tree row_of rows n g x e lt is in
    let m : left - x.size ≡ left - suc (node_count t.below) = omega (arith, t.size) in (
      t.after,
      t.more,
      ap (λ n. ends_after n t.after) m ∙ (sym
          (ends_at left t.unit t.below t.after (omega (arith, t.size, fits)))
          ∙ (ap (ends_after left) (sym t.is) ∙ same)),
    )

ends_nowhere : (n : ℕ) (f : Forest OutputUnit) → 0 < n → f ≡ empty → ends_after n f ≡ false
ends_nowhere zero f h e = absurd (omega (arith, h))
ends_nowhere (suc n) f h e = rw e refl

-- no tree is left
pub none_left : (rows : List Row) (n left : ℕ) (g : Forest OutputUnit) → map row_of (drop n rows) ≡ flat_of g
    → length rows ≤ n → 0 < left → ends_after left g ≡ false
none_left rows n left g e h some = ends_nowhere left g some (all_gone row_of rows n g e h)

-- ---- a row before trees

-- it is a root, if its tree ends where one of those does
pub is_root : (rows : List Row) (n : ℕ) (x : Row) (h : Forest OutputUnit) → map row_of (drop (n + 1) rows) ≡ flat_of h
    → n < length rows → x ≡ get_or rows n x → 0 < x.size → ends_after (x.size - 1) h ≡ true
    → (f : Forest OutputUnit) × (map row_of (drop n rows) ≡ flat_of f)
is_root rows n x h e lt is some ends =
    let p = parted (x.size - 1) h ends in
    let s : x.size ≡ suc (node_count p.before) = omega (arith, p.count, some) in (
      tree x.unit p.before p.after,
      ap (map row_of) (drop_more rows n x lt)
          ∙ (ap (λ (y : Row). row_of y ∷ map row_of (drop (n + 1) rows)) (sym is)
          ∙ (ap (λ m. (x.unit, m) ∷ map row_of (drop (n + 1) rows)) s
          ∙ ap (λ xs. (x.unit, suc (node_count p.before)) ∷ xs)
          (e ∙ (ap flat_of p.is ∙ flat_of-append p.before p.after)))),
    )

pub root_sized : (rows : List Row) (n : ℕ) (x : Row) (f : Forest OutputUnit) → map row_of (drop n rows) ≡ flat_of f
    → n < length rows → x ≡ get_or rows n x → 0 < x.size
root_sized rows n x f e lt is = let t = first_tree row_of rows n f x e lt is in omega (arith, t.size)

-- its tree ends where one of those does, if it is a root
pub root_ends : (rows : List Row) (n : ℕ) (x : Row) (f : Forest OutputUnit) (r : Bool)
    → map row_of (drop n rows) ≡ flat_of f → n < length rows → x ≡ get_or rows n x
    → ((g : Forest OutputUnit) → map row_of (drop (n + 1) rows) ≡ flat_of g → r ≡ ends_after (x.size - 1) g) → r ≡ true
root_ends rows n x f r e lt is h =
    let t = first_tree row_of rows n f x e lt is in
    let s : x.size - 1 ≡ node_count t.below = omega (arith, t.size) in
    h (t.below ⊹ t.after) (t.next ∙ sym (flat_of-append t.below t.after))
    ∙ (ap (λ m. ends_after m (t.below ⊹ t.after)) s ∙ ends_there t.below t.after)

-- ---- all rows

pub from_there : (rows : List Row) (n : ℕ) (f : Forest OutputUnit) → map row_of rows ≡ flat_of f
    → (g : Forest OutputUnit) × (map row_of (drop n rows) ≡ flat_of g)
from_there rows n f e = (from n f, map-drop row_of n rows ∙ (ap (drop n) e ∙ sym (flat_of-from n f)))

-- a tree that has all of the nodes stands alone
pub alone : (rows : List Row) (x : Row) (f : Forest OutputUnit) → map row_of rows ≡ flat_of f → 0 < length rows
    → x ≡ get_or rows 0 x → x.size ≡ length rows → (t : ResultTree) × (map row_of rows ≡ flat_form t)
alone rows x f e lt is s =
    let t = first_tree row_of rows 0 f x e lt is in
    let gone : t.after ≡ empty = all_gone row_of rows (0 + x.size) t.after t.more (omega (arith, s)) in (
      record { root = t.unit; below = t.below },
      e ∙ (ap flat_of t.is ∙ (ap (λ g. flat_of (tree t.unit t.below g)) gone
          ∙ sym (flat_form-flat_of (record { root = t.unit; below = t.below })))),
    )

-- a tree has all of the nodes
pub whole_sized : (rows : List Row) (x : Row) (t : ResultTree) → map row_of rows ≡ flat_form t → 0 < length rows
    → x ≡ get_or rows 0 x → x.size ≡ length rows
whole_sized [] x t e lt is = absurd (omega (arith, lt))
whole_sized (r ∷ rows) x t e lt is =
    let k : row_of r ≡ (t.root, suc (node_count t.below)) = cc in
    let s : r.size ≡ suc (node_count t.below) = ap (λ y. y.1) k in
    let n : suc (length rows)
    ≡ suc (node_count t.below + 0) = rows_of (r ∷ rows) (tree t.root t.below empty) (e ∙ flat_form-flat_of t) in
    let i : x.size ≡ r.size = ap (λ (y : Row). y.size) is in
    omega (arith, s, n, i)

pub some_row : (rows : List Row) (t : ResultTree) → map row_of rows ≡ flat_form t → 0 < length rows
some_row [] t e = absurd cc
some_row (r ∷ rows) t e = omega arith

pub not_none : (n : ℕ) → false ≡ (n == 0) → 0 < n
not_none zero e = absurd cc
not_none (suc n) e = omega arith

pub is_none : (n : ℕ) → true ≡ (n == 0) → n ≡ 0
is_none n e = grind (arith, nat_tests, sym e)
