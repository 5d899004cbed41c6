-- What pruning and condensing leave of each node's tree (JSON Schema Core, section 12.4.3), row by row.
use Rattle.std.specs.Prelude.{◌≡◌, ℕ, Bool, false, ◌||◌, List, [], ◌∷◌, ◌++◌, if◌then◌else◌}
use Rattle.js_tree.specs.Forest.{Forest, empty, tree}
use Rattle.js_tree.specs.Kept.{noted_trees}
use Rattle.js_tree.specs.OutputUnit.{OutputUnit, noted}
use Rattle.js_tree.specs.Pruned.{pruned_below}
use Rattle.js_tree.specs.Result.{ResultTree, has_verdict}
use Rattle.js_tree.specs.Rewrite.{at_least_one, at_least_two}
use Rattle.js_tree.specs.Rows.Relative.{relative_tree}
use Rattle.js_tree.specs.Rows.RelativeState.{AreRowsOf}
use Rattle.js_tree.specs.declared.rows.relative_rows.RelativeRows.{RelativeRows}
use Rattle.js_tree.specs.declared.rows.marks.Left.{Left}
use Rattle.js_tree.specs.declared.rows.marks.RelativeMarks.{RelativeMarks}

-- of how many of the trees something is left
abbrev pub left_trees : Bool → Forest OutputUnit → ℕ
left_trees verdict f = noted_trees noted (pruned_below (has_verdict verdict) f)

-- whether the node is left, and whether something is left below it, where something is left of `trees` of its
-- children's trees
abbrev pub mark_of : Bool → OutputUnit → ℕ → Left
mark_of verdict u trees =
    if has_verdict verdict u then record { stays = noted u || at_least_two trees; below = at_least_one trees } else
    record { stays = false; below = false }

abbrev pub marked : Bool → Forest OutputUnit → List Left
marked verdict empty = []
marked verdict (tree u below after) = mark_of verdict u (left_trees verdict below)
    ∷ (marked verdict below ++ marked verdict after)

-- a whole tree, the locations of whose nodes have only what they add
abbrev pub whole_of : ResultTree → Forest OutputUnit
whole_of t = tree (relative_tree t).root (relative_tree t).below empty

abbrev pub AreMarksOf : RelativeMarks → RelativeRows → Type 0
AreMarksOf marks rows = (t : ResultTree) → AreRowsOf rows t → marks.marks.items ≡ marked t.root.valid (whole_of t)
