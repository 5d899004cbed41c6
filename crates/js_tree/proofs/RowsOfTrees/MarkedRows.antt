-- The marks of the rows of trees, written and read tree by tree.
use Rattle.std.proofs.Common.{◌≡◌, ℕ, suc, ◌+◌, ◌-◌, ◌≤◌, Bool, true, false, ◌||◌, if◌then◌else◌, List}
use Rattle.std.proofs.Common.{[], ◌∷◌, ◌++◌, length, take, drop, map, get_or, slice_set, refl, ap, ap₂}
use Rattle.std.proofs.Common.{sym, ◌∙◌, append_assoc, append-nil, arith}
use Rattle.std.proofs.lemmas.List.{length-append, length-map}
use Rattle.js_tree.specs.Flat.{flat_of}
use Rattle.js_tree.specs.Forest.{Forest, empty, tree, node_count}
use Rattle.js_tree.specs.OutputUnit.{OutputUnit}
use Rattle.js_tree.specs.Result.{ResultTree}
use Rattle.js_tree.proofs.ChildTexts.{rest_of}
use Rattle.js_tree.proofs.FlatRows.{all_gone, drop-append, drop-drop, rows_below}
use Rattle.js_tree.proofs.Marks.{flat_form-flat_of}
use Rattle.js_tree.proofs.FlatFormCollected.{length-flat_of}
use Rattle.js_tree.specs.Rows.Marks.{left_trees, mark_of, marked}
use Rattle.js_tree.specs.Rows.RelativeState.{relative_row}
use Rattle.js_tree.specs.Rows.Relative.{escaped, escaped_tree}
use Rattle.js_tree.specs.code.Listing.{AreMarkedRows}
use Rattle.js_tree.specs.code.RelativeText.{AreRowsOfTree}
use Rattle.js_tree.specs.declared.rows.relative_rows.RelativeRow.{RelativeRow}
use Rattle.js_tree.specs.declared.rows.marks.Left.{Left}
use Rattle.js_tree.proofs.RowsOfTrees.LeftTrees.{first_left}
use Rattle.js_tree.proofs.RowsOfTrees.EscapedRows.{NextTree, count-escaped}
use Rattle.js_tree.proofs.RowsOfTrees.NextTrees.{TreeUpTo}

pub length-marked : (v : Bool) (f : Forest OutputUnit) → length (marked v f) ≡ node_count f
length-marked v empty = refl
length-marked v (tree u below after) =
    omega (arith, length-append (marked v below) (marked v after), length-marked v below, length-marked v after)

marked_first : (v : Bool) (u : OutputUnit) (below after : Forest OutputUnit)
    → marked v (tree u below after) ≡ marked v (tree u below empty) ++ marked v after
marked_first v u below after =
    ap (λ ms. mark_of v u (left_trees v below) ∷ ms)
    (ap (λ ms. ms ++ marked v after) (sym (append-nil (marked v below))))

at_most : (b : Bool) (m : ℕ) → (if b then 1 else 0) + m ≤ suc m
at_most true m = omega arith
at_most false m = omega arith

pub left_few : (v : Bool) (f : Forest OutputUnit) → left_trees v f ≤ node_count f
left_few v empty = omega arith
left_few v (tree u below after) =
    let m = mark_of v u (left_trees v below) in
    omega (arith, first_left v u below after, at_most (m.stays || m.below) (left_trees v after), left_few v after)

-- ---- marks that are written tree by tree

pub record LeftToMark (verdict : Bool) (rows : List RelativeRow) (next : ℕ) (old : List Left) (new : List Left)
    (trees : ℕ) (f : Forest OutputUnit) : Type 0 where
  pub done : List Left
  pub left : Forest OutputUnit
  pub left_is : map relative_row (drop next rows) ≡ flat_of left
  pub new_is : new ≡ old ++ done
  pub all : done ++ marked verdict left ≡ marked verdict f
  pub count : trees + left_trees verdict left ≡ left_trees verdict f

-- so for each forest that the rows are of
abbrev pub MarksUpTo : Bool → List RelativeRow → ℕ → List Left → List Left → ℕ → Type 0
MarksUpTo verdict rows next old new trees =
    (next ≤ length rows) × ((f : Forest OutputUnit) → map relative_row rows ≡ flat_of f
    → LeftToMark verdict rows next old new trees f)

pub mark_starts : (verdict : Bool) (rows : List RelativeRow) (old : List Left) (f : Forest OutputUnit)
    → map relative_row rows ≡ flat_of f → LeftToMark verdict rows 0 old old 0 f
mark_starts verdict rows old f e =
    record { done = []; left = f; left_is = e; new_is = sym (append-nil old); all = refl; count = omega arith }

pub mark_goes_on : (verdict : Bool) (rows : List RelativeRow) (next : ℕ) (old mid new : List Left) (trees more : ℕ)
    (f : Forest OutputUnit) (end : ℕ)
    → (l : LeftToMark verdict rows next old mid trees f) → (t : TreeUpTo rows next l.left end)
    → new ≡ mid ++ marked verdict (tree t.unit t.below empty) → more ≡ left_trees verdict (tree t.unit t.below empty)
    → LeftToMark verdict rows end old new (trees + more) f
mark_goes_on verdict rows next old mid new trees more f end l t e m =
    let these = marked verdict (tree t.unit t.below empty) in
    let left_is = ap (marked verdict) t.is ∙ marked_first verdict t.unit t.below t.after in
    record {
      done = l.done ++ these;
      left = t.after;
      left_is = t.more;
      new_is = e ∙ (ap (λ ms. ms ++ these) l.new_is ∙ append_assoc old l.done these);
      all = append_assoc l.done these (marked verdict t.after) ∙ (ap (λ ms. l.done ++ ms) (sym left_is) ∙ l.all);
      count = omega (
        arith,
        m,
        l.count,
        first_left verdict t.unit t.below t.after,
        first_left verdict t.unit t.below
            empty,
        ap (left_trees verdict) t.is,
      );
    }

pub mark_ends : (verdict : Bool) (rows : List RelativeRow) (next : ℕ) (old new : List Left) (trees : ℕ)
    (f : Forest OutputUnit)
    → LeftToMark verdict rows next old new trees f → length rows ≤ next
    → (new ≡ old ++ marked verdict f) × (trees ≡ left_trees verdict f)
mark_ends verdict rows next old new trees f l h =
    let none = all_gone relative_row rows next l.left l.left_is h in
    let z : trees + 0 ≡ trees = omega arith in (
      l.new_is ∙ ap (λ ms. old ++ ms)
          (sym (append-nil l.done) ∙ (ap (λ g. l.done ++ marked verdict g) (sym none) ∙ l.all)),
      sym z ∙ (ap (λ g. trees + left_trees verdict g) (sym none) ∙ l.count),
    )

-- the trees of which something is left are no more than the rows
pub mark_fits : (verdict : Bool) (rows : List RelativeRow) (next : ℕ) (old mid : List Left) (trees more : ℕ)
    (f : Forest OutputUnit) (end : ℕ)
    → (l : LeftToMark verdict rows next old mid trees f) → (t : TreeUpTo rows next l.left end)
    → map relative_row rows ≡ flat_of f
    → more ≡ left_trees verdict (tree t.unit t.below empty) → trees + more ≤ length rows
mark_fits verdict rows next old mid trees more f end l t e m =
    omega (
      arith,
      m,
      l.count,
      first_left verdict t.unit t.below t.after,
      first_left verdict t.unit t.below empty,
      ap
          (left_trees verdict) t.is,
      left_few verdict f,
      length-flat_of f,
      ap length e,
      length-map rows relative_row,
    )

set_at : (old : List Left) (p m : Left) (more : List Left)
    → slice_set ((old ++ p ∷ []) ++ more) (length old) m ≡ old ++ m ∷ more
set_at [] p m more = refl
set_at (o ∷ old) p m more = ap (λ ms. o ∷ ms) (set_at old p m more)

-- the mark stands where there was none yet
pub mark_set : (old : List Left) (p m : Left) (more new : List Left) (n : ℕ) → n ≡ length old
    → new ≡ (old ++ p ∷ []) ++ more → slice_set new n m ≡ old ++ m ∷ more
mark_set old p m more new n n_is new_is = ap (λ ms. slice_set ms n m) new_is
    ∙ (ap (λ k. slice_set ((old ++ p ∷ []) ++ more) k m) n_is ∙ set_at old p m more)

pub one_tree : (v : Bool) (u : OutputUnit) (below : Forest OutputUnit) (m : Left) (n : ℕ) → m ≡ mark_of v u
    (left_trees v below) → n ≡ (if (m.stays || m.below) then 1 else 0) → n ≡ left_trees v (tree u below empty)
one_tree v u below m n e k =
    let count : Left → ℕ = λ a. if (a.stays || a.below) then 1 else 0 in
    let same : count m ≡ count (mark_of v u (left_trees v below)) = ap count e in
    omega (arith, k, same, first_left v u below empty)

-- a node without children
pub leaf_marked : (v : Bool) (r : ResultTree) (x : RelativeRow) (old new : List Left) (n : ℕ)
    → (relative_row x).0 ≡ r.root → r.below ≡ empty
    → (new ≡ old ++ marked v (tree (relative_row x).0 empty empty))
    × (n ≡ left_trees v (tree (relative_row x).0 empty empty))
    → (new ≡ old ++ marked v (tree r.root r.below empty)) × (n ≡ left_trees v (tree r.root r.below empty))
leaf_marked v r x old new n u b reported =
    let is : tree (relative_row x).0 empty empty ≡ tree r.root r.below empty = ap₂ (λ w f. tree w f empty) u (sym b) in
    (reported.0 ∙ ap (λ f. old ++ marked v f) is, reported.1 ∙ ap (left_trees v) is)

-- ---- marks that are read tree by tree

take_front : {A : Type 0} (xs ys : List A) → take (length xs) (xs ++ ys) ≡ xs
take_front [] ys = refl
take_front (x ∷ xs) ys = ap (λ zs. x ∷ zs) (take_front xs ys)

pub record NextMarks (verdict : Bool) (marks : List Left) (next : ℕ) (end : ℕ) (unit : OutputUnit)
    (below : Forest OutputUnit) (after : Forest OutputUnit) : Type 0 where
  pub these : take (end - next) (drop next marks) ≡ marked verdict (tree unit below empty)
  pub more : drop end marks ≡ marked verdict after

pub next_marks : (verdict : Bool) (marks : List Left) (rows : List RelativeRow) (next : ℕ) (f : Forest OutputUnit)
    (end : ℕ) → (t : NextTree rows next f end) → drop next marks ≡ marked verdict f
    → NextMarks verdict marks next end t.unit t.below t.after
next_marks verdict marks rows next f end t e =
    let these = marked verdict (tree t.unit t.below empty) in
    let both : drop next marks ≡ these ++ marked verdict t.after = e
    ∙ (ap (marked verdict) t.is ∙ marked_first verdict t.unit t.below t.after) in
    let size : end - next ≡ length these =
    omega (arith, t.size, count-escaped t.below, length-marked verdict (tree t.unit t.below empty)) in
    let is : end ≡ next + length these =
    omega (arith, t.size, count-escaped t.below, length-marked verdict (tree t.unit t.below empty)) in
    record {
      these = ap (take (end - next)) both
          ∙ (ap (λ n. take n (these ++ marked verdict t.after)) size ∙ take_front these (marked verdict t.after));
      more = ap (λ n. drop n marks) is ∙ (drop-drop next (length these) marks
          ∙ (ap (drop (length these)) both ∙ drop-append these (marked verdict t.after)));
    }

-- ---- the rows and the marks of a tree

abbrev pub first_mark : List Left → Left
first_mark marks = get_or marks 0 (record { stays = false; below = false })

pub root_mark : (rows : List RelativeRow) (marks : List Left) (v : Bool) (u : OutputUnit) (below : Forest OutputUnit)
    → AreMarkedRows rows marks v (tree u below empty) → first_mark marks ≡ mark_of v u (left_trees v below)
root_mark rows marks v u below h = ap first_mark h.marks_are

pub flat_rows : (rows : List RelativeRow) (marks : List Left) (v : Bool) (u : OutputUnit) (below : Forest OutputUnit)
    → AreMarkedRows rows marks v (tree u below empty) → AreRowsOfTree rows (record { root = u; below = below })
flat_rows rows marks v u below h = h.rows_are
    ∙ sym (flat_form-flat_of (escaped_tree (record { root = u; below = below })))

pub marked_below : (rows : List RelativeRow) (marks : List Left) (v : Bool) (u : OutputUnit) (below : Forest OutputUnit)
    → AreMarkedRows rows marks v (tree u below empty)
    → AreMarkedRows (take (length rows - 1) (drop 1 rows)) (take (length marks - 1) (drop 1 marks)) v below
marked_below rows marks v u below h = record {
  rows_are = ap (map relative_row) (rest_of rows) ∙ rows_below relative_row rows
      (escaped_tree (record { root = u; below = below })) (flat_rows rows marks v u below h);
  marks_are = rest_of marks ∙ (ap (drop 1) h.marks_are ∙ append-nil (marked v below));
}

pub as_many : (rows : List RelativeRow) (marks : List Left) (v : Bool) (f : Forest OutputUnit)
    → AreMarkedRows rows marks v f → length marks ≡ length rows
as_many rows marks v f h =
    omega (
      arith,
      ap length h.rows_are,
      length-map rows relative_row,
      length-flat_of (escaped f),
      count-escaped f,
      ap
          length h.marks_are,
      length-marked v f,
    )

-- the tree that comes next
pub marked_next : (v : Bool) (marks : List Left) (rows : List RelativeRow) (next : ℕ) (f : Forest OutputUnit) (end : ℕ)
    → (t : NextTree rows next f end) → drop next marks ≡ marked v f
    → AreMarkedRows (take (end - next) (drop next rows)) (take (end - next) (drop next marks)) v
    (tree t.unit t.below empty)
marked_next v marks rows next f end t e = record {
  rows_are = t.all ∙ flat_form-flat_of (escaped_tree (record { root = t.unit; below = t.below }));
  marks_are = (next_marks v marks rows next f end t e).these;
}
