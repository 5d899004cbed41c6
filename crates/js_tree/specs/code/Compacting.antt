-- How the rows of a flat form are marked, and which of them are then left (of private functions).
use Rattle.std.specs.Prelude.{◌≡◌, ℕ, zero, suc, ◌+◌, ◌-◌, Bool, ◌||◌, if◌then◌else◌, List, [], ◌∷◌, ◌++◌, drop}
use Rattle.js_tree.specs.FlatState.{FlatRow}
use Rattle.js_tree.specs.Forest.{Forest, empty, tree, node_count}
use Rattle.js_tree.specs.OutputUnit.{OutputUnit, noted}
use Rattle.js_tree.specs.Kept.{kept_below}
use Rattle.js_tree.specs.Pruned.{pruned_below}
use Rattle.js_tree.specs.Result.{ResultTree, has_verdict}
use Rattle.js_tree.specs.Rewrite.{at_least_one, at_least_two}
use Rattle.js_tree.specs.declared.reducing.compacting.Keep.{Keep}
use Rattle.js_tree.specs.declared.reducing.compacting.Keep.TheVariants.{Verdict, Noted}
use Rattle.js_tree.specs.declared.collecting.flat.Row.{Row}

-- what is left of the trees
abbrev pub left : Keep → Forest OutputUnit → Forest OutputUnit
left (Verdict v) = pruned_below (has_verdict v)
left Noted = kept_below noted

abbrev pub left_of : Keep → ResultTree → ResultTree
left_of k t = record { root = t.root; below = left k t.below }

-- of how many trees something is left
abbrev pub left_tree_count : Keep → Forest OutputUnit → ℕ
left_tree_count k empty = 0
left_tree_count k (tree u below after) = if at_least_one (node_count (left k (tree u below empty))) then suc
    (left_tree_count k after) else left_tree_count k after

-- whether a node is left, if something is left of this many of its children's trees
abbrev pub stays : Keep → OutputUnit → ℕ → Bool
stays (Verdict v) u trees = has_verdict v u
stays Noted u trees = noted u || at_least_two trees

-- how many nodes are left of its tree, if this many are left below it
abbrev pub room : Keep → Bool → ℕ → ℕ
room (Verdict v) here below = if here then suc below else 0
room Noted here below = if here then suc below else below

-- the rows of a forest, marked
abbrev pub marked_rows : Keep → Forest OutputUnit → List Row
marked_rows k empty = []
marked_rows k (tree u below after) =
    record {
      unit = u;
      size = suc (node_count below);
      room = node_count (left k (tree u below empty));
      stays = stays k u (left_tree_count k below);
    } ∷ (marked_rows k below ++ marked_rows k after)

-- how many rows go with a dropped row of this size
abbrev pub gone_with : Keep → ℕ → ℕ
gone_with (Verdict v) size = size - 1
gone_with Noted size = 0

-- what is left of marked rows, if this many of them go with an earlier one
abbrev pub gathered : Keep → ℕ → List Row → List FlatRow
gathered k n [] = []
gathered k zero (r ∷ rs) = if r.stays then (r.unit, r.room) ∷ gathered k zero rs else gathered k (gone_with k r.size) rs
gathered k (suc n) (r ∷ rs) = gathered k n rs

-- The rows from first to end are those of marked trees; `trees` and `nodes` count what is left of those before next.
abbrev pub IsRemaining : List Row → ℕ → ℕ → ℕ → ℕ → ℕ → Type 0
IsRemaining rows first end next trees nodes =
    (k : Keep) (f : Forest OutputUnit) (rest : List Row) → drop first rows ≡ marked_rows k f ++ rest
    → first + node_count f ≡ end
    → (g : Forest OutputUnit) × (drop next rows ≡ marked_rows k g ++ rest) × (next + node_count g ≡ end)
    × (trees + left_tree_count k g ≡ left_tree_count k f) × (nodes + node_count (left k g) ≡ node_count (left k f))

-- The rows from first to end are those of marked trees.
abbrev pub AreMarkedTrees : List Row → ℕ → ℕ → Type 0
AreMarkedTrees rows first end = (k : Keep) × (f : Forest OutputUnit) × (rest : List Row)
    × (drop first rows ≡ marked_rows k f ++ rest) × (first + node_count f ≡ end)
