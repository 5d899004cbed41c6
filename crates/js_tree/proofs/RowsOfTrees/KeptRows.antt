-- What is kept of trees that have only what their locations add, by the mark of the first root.
use Rattle.std.proofs.Common.{◌≡◌, ℕ, zero, suc, Bool, true, false, ◌||◌, if◌then◌else◌}
use Rattle.std.proofs.Common.{List, ◌++◌, refl, ap, sym, ◌∙◌, arith}
use Rattle.js_tree.specs.Forest.{Forest, empty, tree, ◌⊹◌, tree_count}
use Rattle.js_tree.specs.Kept.{kept_below}
use Rattle.js_tree.specs.OutputUnit.{OutputUnit, noted}
use Rattle.js_tree.specs.Pruned.{pruned_below}
use Rattle.js_tree.specs.Result.{ResultTree, has_verdict, kept, pruned}
use Rattle.js_tree.specs.Rewrite.{at_least_one, at_least_two}
use Rattle.js_tree.specs.Rows.Marks.{left_trees, mark_of}
use Rattle.js_tree.specs.Rows.Relative.{IsLocated, placed_unit, relative_tree}
use Rattle.js_tree.specs.code.Listing.{condensed}
use Rattle.js_tree.specs.declared.rows.marks.Left.{Left}
use Rattle.js_tree.proofs.RowsOfTrees.LeftTrees.{count_left, left_trees-placed}
use Rattle.js_tree.proofs.WrittenRows.ListedUnits.{agrees_placed}
use Rattle.js_tree.proofs.RowsOfTrees.Placing.{placed_tree_again}

no_forest : (n : ℕ) (g : Forest OutputUnit) → tree_count g ≡ n → at_least_one n ≡ false → g ≡ empty
no_forest n empty e h = refl
no_forest zero (tree u below after) e h = absurd (omega (arith, e))
no_forest (suc n) (tree u below after) e h = absurd cc

abbrev below_of : Bool → List ℕ → List ℕ → OutputUnit → Forest OutputUnit → Forest OutputUnit
below_of v k i u below = condensed v (k ++ u.keyword) (i ++ u.instance) below

-- what is kept of a tree, of whose root's mark this is
abbrev pub kept_alone : Bool → List ℕ → List ℕ → OutputUnit → Forest OutputUnit → Left → Forest OutputUnit
kept_alone v k i u below m =
    if m.stays then tree (placed_unit k i u) (below_of v k i u below) empty else
    (if m.below then below_of v k i u below else empty)

below_at : (b : Bool) (v : Bool) (k i : List ℕ) (f : Forest OutputUnit) → at_least_one (left_trees v f) ≡ b
    → condensed v k i f ≡ (if b then condensed v k i f else empty)
below_at true v k i f e = refl
below_at false v k i f e = no_forest (left_trees v f) (condensed v k i f) (count_left v k i f) e

kept_at : (s : Bool) (v : Bool) (k i : List ℕ) (u : OutputUnit) (below after : Forest OutputUnit)
    → (noted u || at_least_two (left_trees v below)) ≡ s
    → (if s then tree (placed_unit k i u) (below_of v k i u below) after else (below_of v k i u below ⊹ after))
    ≡ ((if s then tree (placed_unit k i u) (below_of v k i u below) empty else
    (if at_least_one (left_trees v below) then below_of v k i u below else empty)) ⊹ after)
kept_at true v k i u below after e = refl
kept_at false v k i u below after e =
    ap (λ f. f ⊹ after) (below_at (at_least_one (left_trees v below)) v (k ++ u.keyword) (i ++ u.instance) below refl)

agreeing : (v : Bool) (k i : List ℕ) (u : OutputUnit) (below after : Forest OutputUnit) → has_verdict v u ≡ true
    → condensed v k i (tree u below after)
    ≡ (kept_alone v k i u below
    (record { stays = noted u || at_least_two (left_trees v below); below = at_least_one (left_trees v below) })
    ⊹ condensed v k i after)
agreeing v k i u below after e =
    let a = agrees_placed v k i u ∙ e in
    let n = left_trees-placed v (k ++ u.keyword) (i ++ u.instance) below in
    rw (a, n) (kept_at (noted u || at_least_two (left_trees v below)) v k i u below (condensed v k i after) refl)

first_at : (b : Bool) (v : Bool) (k i : List ℕ) (u : OutputUnit) (below after : Forest OutputUnit) → has_verdict v u ≡ b
    → condensed v k i (tree u below after)
    ≡ (kept_alone v k i u below (mark_of v u (left_trees v below)) ⊹ condensed v k i after)
first_at true v k i u below after e =
    agreeing v k i u below after e
    ∙ ap (λ b. kept_alone v k i u below (if b then record
    { stays = noted u || at_least_two (left_trees v below); below = at_least_one (left_trees v below) } else record
    { stays = false; below = false }) ⊹ condensed v k i after) (sym e)
first_at false v k i u below after e = let a = agrees_placed v k i u ∙ e in rw (a, e) refl

pub kept_first : (v : Bool) (k i : List ℕ) (u : OutputUnit) (below after : Forest OutputUnit)
    → condensed v k i (tree u below after)
    ≡ (kept_alone v k i u below (mark_of v u (left_trees v below)) ⊹ condensed v k i after)
kept_first v k i u below after = first_at (has_verdict v u) v k i u below after refl

-- ---- of a whole tree

pub whole_kept : (t : ResultTree) → IsLocated t
    → ◌≡◌ {A = ResultTree} (record
    { root = t.root; below = condensed t.root.valid t.root.keyword t.root.instance (relative_tree t).below })
    (kept (pruned t))
whole_kept t h = ap (λ s.
    record { root = s.root; below = kept_below noted (pruned_below (has_verdict t.root.valid) s.below) })
    (placed_tree_again t h)
