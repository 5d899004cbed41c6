-- Of how many trees pruning and condensing leave something, where the trees have only what their locations add.
use Rattle.std.proofs.Common.{◌≡◌, ℕ, zero, suc, ◌+◌, Bool, true, false, ◌||◌}
use Rattle.std.proofs.Common.{if◌then◌else◌, List, ◌++◌, refl, ◌∙◌, arith}
use Rattle.js_tree.specs.Forest.{Forest, empty, tree, tree_count}
use Rattle.js_tree.specs.OutputUnit.{OutputUnit, noted}
use Rattle.js_tree.specs.Pruned.{pruned_below}
use Rattle.js_tree.specs.Result.{has_verdict}
use Rattle.js_tree.specs.Rewrite.{at_least_one, at_least_two}
use Rattle.js_tree.proofs.KeptTree.{tree_count-kept_below}
use Rattle.js_tree.specs.Rows.Marks.{left_trees, mark_of}
use Rattle.js_tree.specs.Rows.Relative.{placed}
use Rattle.js_tree.specs.code.Listing.{condensed}
use Rattle.js_tree.proofs.WrittenRows.ListedUnits.{agrees_placed}

-- ---- something is left of as many trees, wherever they are placed

abbrev placed_left : Bool → List ℕ → List ℕ → Forest OutputUnit → ℕ
placed_left v k i f = left_trees v (placed k i f)

left_trees_at : (b : Bool) (v : Bool) (k i : List ℕ) (u : OutputUnit)
    (below after : Forest OutputUnit) → has_verdict v u ≡ b
    → placed_left v (k ++ u.keyword) (i ++ u.instance) below ≡ left_trees v below
    → placed_left v k i after ≡ left_trees v after
    → placed_left v k i (tree u below after) ≡ left_trees v (tree u below after)
left_trees_at true v k i u below after e p q = let a = agrees_placed v k i u ∙ e in rw (a, e, p, q) refl
left_trees_at false v k i u below after e p q = let a = agrees_placed v k i u ∙ e in rw (a, e, q) refl

pub left_trees-placed : (v : Bool) (k i : List ℕ) (f : Forest OutputUnit) → placed_left v k i f ≡ left_trees v f
left_trees-placed v k i empty = refl
left_trees-placed v k i (tree u below after) =
    left_trees_at (has_verdict v u) v k i u below after refl
    (left_trees-placed v (k ++ u.keyword) (i ++ u.instance) below) (left_trees-placed v k i after)

-- as many trees are left as there are trees of which something is left
pub count_left : (v : Bool) (k i : List ℕ) (f : Forest OutputUnit) → tree_count (condensed v k i f) ≡ left_trees v f
count_left v k i f = tree_count-kept_below noted (pruned_below (has_verdict v) (placed k i f))
    ∙ left_trees-placed v k i f

-- ---- of how many trees something is left

left_first_at : (b s : Bool) (n m : ℕ)
    → (if (b || at_least_one n) then suc m else m) ≡ (if ((b || at_least_two n) || at_least_one n) then 1 else 0) + m
left_first_at true s n m = omega arith
left_first_at false s zero m = omega arith
left_first_at false s (suc zero) m = omega arith
left_first_at false s (suc (suc n)) m = omega arith

first_left_at : (b : Bool) (v : Bool) (u : OutputUnit) (below after : Forest OutputUnit) → has_verdict v u ≡ b
    → left_trees v (tree u below after)
    ≡ (let m = mark_of v u (left_trees v below) in if (m.stays || m.below) then 1 else 0) + left_trees v after
first_left_at true v u below after e = rw e (left_first_at (noted u) true (left_trees v below) (left_trees v after))
first_left_at false v u below after e = let z : 0 + left_trees v after
    ≡ left_trees v after = omega arith in rw (e, z) refl

pub first_left : (v : Bool) (u : OutputUnit) (below after : Forest OutputUnit)
    → left_trees v (tree u below after)
    ≡ (let m = mark_of v u (left_trees v below) in if (m.stays || m.below) then 1 else 0) + left_trees v after
first_left v u below after = first_left_at (has_verdict v u) v u below after refl
