-- What is left of trees that have only what their locations add, placed again.
use Rattle.std.proofs.Common.{◌≡◌, ℕ, Bool, true, false, List, [], ◌++◌, length, refl, ap, ap₂}
use Rattle.std.proofs.Common.{sym, ◌∙◌, append_assoc, append-nil, subst}
use Rattle.std.proofs.Math.Seq.{drop-append_seam}
use Rattle.js_tree.specs.Forest.{Forest, empty, tree, ◌⊹◌}
use Rattle.js_tree.specs.OutputUnit.{OutputUnit}
use Rattle.js_tree.specs.Result.{ResultTree, kept, pruned}
use Rattle.js_tree.proofs.Forests.{append-empty}
use Rattle.js_tree.specs.Rows.Marks.{left_trees, mark_of}
use Rattle.js_tree.specs.Rows.Relative.{AreLocated, IsLocated, placed, placed_unit, relative, relative_tree}
use Rattle.js_tree.specs.code.KeptBetween.{by_mark, kept_between, kept_relative}
use Rattle.js_tree.specs.code.Listing.{condensed}
use Rattle.js_tree.specs.declared.rows.marks.Left.{Left}
use Rattle.js_tree.proofs.RowsOfTrees.KeptRows.{kept_alone, kept_first, whole_kept}

-- ---- placing twice

pub placed-append : (k i : List ℕ) (f g : Forest OutputUnit) → placed k i (f ⊹ g) ≡ (placed k i f ⊹ placed k i g)
placed-append k i empty g = refl
placed-append k i (tree u below after) g =
    ap (tree (placed_unit k i u) (placed (k ++ u.keyword) (i ++ u.instance) below)) (placed-append k i after g)

placed_twice : (k i l j : List ℕ) (u : OutputUnit)
    → placed_unit k i (placed_unit l j u) ≡ placed_unit (k ++ l) (i ++ j) u
placed_twice k i l j u =
    ap₂ (λ x y. record { valid = u.valid; keyword = x; absolute = u.absolute; instance = y; note = u.note })
    (sym (append_assoc k l u.keyword)) (sym (append_assoc i j u.instance))

-- ---- what is left, placed

-- a kept node starts anew
anew : (v : Bool) (k i l j : List ℕ) (u : OutputUnit) (below : Forest OutputUnit)
    → ((x y : List ℕ) → placed x y (kept_between v [] [] below) ≡ condensed v (x ++ []) (y ++ []) below)
    → placed (k ++ (l ++ u.keyword)) (i ++ (j ++ u.instance)) (kept_between v [] [] below)
    ≡ condensed v ((k ++ l) ++ u.keyword) ((i ++ j) ++ u.instance) below
anew v k i l j u below h =
    h (k ++ (l ++ u.keyword)) (i ++ (j ++ u.instance))
    ∙ ap₂ (λ x y. condensed v x y below) (append-nil (k ++ (l ++ u.keyword)) ∙ sym (append_assoc k l u.keyword))
    (append-nil (i ++ (j ++ u.instance)) ∙ sym (append_assoc i j u.instance))

by_stays : (s b : Bool) (m : Left) (v : Bool) (k i l j : List ℕ) (u : OutputUnit) (below after : Forest OutputUnit)
    → m.stays ≡ s → m.below ≡ b
    → ((x y : List ℕ) → placed x y (kept_between v [] [] below) ≡ condensed v (x ++ []) (y ++ []) below)
    → placed k i (kept_between v (l ++ u.keyword) (j ++ u.instance) below)
    ≡ condensed v (k ++ (l ++ u.keyword)) (i ++ (j ++ u.instance)) below
    → placed k i (kept_between v l j after) ≡ condensed v (k ++ l) (i ++ j) after
    → placed k i (by_mark m (tree (placed_unit l j u) (kept_between v [] [] below))
    (kept_between v (l ++ u.keyword) (j ++ u.instance) below) (kept_between v l j after))
    ≡ (kept_alone v (k ++ l) (i ++ j) u below m ⊹ condensed v (k ++ l) (i ++ j) after)
by_stays true b m v k i l j u below after s e new handed rest =
    rw s
    (ap (λ x. tree x (placed (k ++ (l ++ u.keyword)) (i ++ (j ++ u.instance)) (kept_between v [] [] below))
    (placed k i (kept_between v l j after))) (placed_twice k i l j u)
    ∙ ap₂ (λ x y. tree (placed_unit (k ++ l) (i ++ j) u) x y) (anew v k i l j u below new) rest)
by_stays false true m v k i l j u below after s e new handed rest =
    rw (s, e)
    (placed-append k i (kept_between v (l ++ u.keyword) (j ++ u.instance) below) (kept_between v l j after)
    ∙ ap₂ (λ x y. x ⊹ y)
    (handed ∙ ap₂ (λ x y. condensed v x y below) (sym (append_assoc k l u.keyword)) (sym (append_assoc i j u.instance)))
    rest)
by_stays false false m v k i l j u below after s e new handed rest = rw (s, e) rest

pub placed_between : (v : Bool) (k i l j : List ℕ) (f : Forest OutputUnit)
    → placed k i (kept_between v l j f) ≡ condensed v (k ++ l) (i ++ j) f
placed_between v k i l j empty = refl
placed_between v k i l j (tree u below after) =
    let m = mark_of v u (left_trees v below) in
    by_stays m.stays m.below m v k i l j u below after refl refl (λ x y. placed_between v x y [] [] below)
    (placed_between v k i (l ++ u.keyword) (j ++ u.instance) below) (placed_between v k i l j after)
    ∙ sym (kept_first v (k ++ l) (i ++ j) u below after)

-- ---- the relative form of trees that were placed

pub relative_again : (k i : List ℕ) (f : Forest OutputUnit) → relative (length k) (length i) (placed k i f) ≡ f
relative_again k i empty = refl
relative_again k i (tree u below after) =
    let g = relative (length (k ++ u.keyword)) (length (i ++ u.instance))
    (placed (k ++ u.keyword) (i ++ u.instance) below) in
    let h = relative (length k) (length i) (placed k i after) in
    ap₂ (λ x y. tree (record { valid = u.valid; keyword = x; absolute = u.absolute; instance = y; note = u.note }) g h)
    (drop-append_seam k u.keyword) (drop-append_seam i u.instance)
    ∙ ap₂ (λ x y. tree u x y) (relative_again (k ++ u.keyword) (i ++ u.instance) below) (relative_again k i after)

pub located_placed : (k i : List ℕ) (f : Forest OutputUnit) → AreLocated k i (placed k i f)
located_placed k i empty = record {}
located_placed k i (tree u below after) = (
  (u.keyword, refl),
  (u.instance, refl),
  located_placed (k ++ u.keyword) (i ++ u.instance) below,
  located_placed k i after,
)

-- ---- of a whole tree

pub kept_is_placed : (t : ResultTree) → IsLocated t
    → kept (pruned t) ≡ record { root = t.root; below = placed t.root.keyword t.root.instance (kept_relative t).below }
kept_is_placed t h =
    sym (whole_kept t h)
    ∙ ap (λ f. record { root = t.root; below = f })
    (sym (placed_between t.root.valid t.root.keyword t.root.instance [] [] (relative_tree t).below
    ∙ ap₂ (λ x y. condensed t.root.valid x y (relative_tree t).below) (append-nil t.root.keyword)
    (append-nil t.root.instance)))

pub relative_kept : (t : ResultTree) → IsLocated t → relative_tree (kept (pruned t)) ≡ kept_relative t
relative_kept t h =
    ap relative_tree (kept_is_placed t h)
    ∙ ap (λ f. record { root = t.root; below = f })
    (relative_again t.root.keyword t.root.instance (kept_relative t).below)

pub kept_located : (t : ResultTree) → IsLocated t → IsLocated (kept (pruned t))
kept_located t h = subst IsLocated (sym (kept_is_placed t h))
    (located_placed t.root.keyword t.root.instance (kept_relative t).below)

-- ---- tree by tree

first_by_mark : (s b : Bool) (m : Left) (u : OutputUnit) (inside handed after : Forest OutputUnit)
    → m.stays ≡ s → m.below ≡ b
    → by_mark m (tree u inside) handed after ≡ (by_mark m (tree u inside) handed empty ⊹ after)
first_by_mark true b m u inside handed after s e = rw s refl
first_by_mark false true m u inside handed after s e = rw (s, e) (ap (λ f. f ⊹ after) (sym (append-empty handed)))
first_by_mark false false m u inside handed after s e = rw (s, e) refl

pub next_between : (v : Bool) (k i : List ℕ) (f : Forest OutputUnit) (u : OutputUnit) (below after : Forest OutputUnit)
    → f ≡ tree u below after
    → kept_between v k i f ≡ (kept_between v k i (tree u below empty) ⊹ kept_between v k i after)
next_between v k i f u below after e =
    let m = mark_of v u (left_trees v below) in
    ap (kept_between v k i) e
    ∙ first_by_mark m.stays m.below m (placed_unit k i u) (kept_between v [] [] below)
    (kept_between v (k ++ u.keyword) (i ++ u.instance) below) (kept_between v k i after) refl refl

by_its_mark : (v : Bool) (k i : List ℕ) (u : OutputUnit) (below : Forest OutputUnit) (m : Left)
    → m ≡ mark_of v u (left_trees v below)
    → kept_between v k i (tree u below empty)
    ≡ by_mark m (tree (placed_unit k i u) (kept_between v [] [] below))
    (kept_between v (k ++ u.keyword) (i ++ u.instance) below) empty
by_its_mark v k i u below m e =
    ap (λ n. by_mark n (tree (placed_unit k i u) (kept_between v [] [] below))
    (kept_between v (k ++ u.keyword) (i ++ u.instance) below) empty) (sym e)

pub node_goes : (v : Bool) (k i : List ℕ) (u : OutputUnit) (below : Forest OutputUnit) (m : Left)
    → m ≡ mark_of v u (left_trees v below) → m.stays ≡ false → m.below ≡ true
    → kept_between v k i (tree u below empty) ≡ kept_between v (k ++ u.keyword) (i ++ u.instance) below
node_goes v k i u below m e s b = by_its_mark v k i u below m e
    ∙ rw (s, b) (append-empty (kept_between v (k ++ u.keyword) (i ++ u.instance) below))
