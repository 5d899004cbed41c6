use Rattle.std.proofs.Common.{◌≡◌, ◌≤◌, ◌+◌, ◌-◌, ◌*◌, Bool, List, ℕ, drop, length}
use Rattle.js_tree.specs.Forest.{Forest}
use Rattle.js_tree.specs.OutputUnit.{OutputUnit}
use Rattle.js_tree.specs.Rows.Marks.{marked}
use Rattle.js_tree.specs.code.KeptBetween.{IsPending, StaysPending}
use Rattle.js_tree.specs.code.Listing.{AreMarkedRows}
use Rattle.js_tree.specs.code.RelativeText.{AreRowsOfTrees}
use Rattle.js_tree.proofs.RowsOfTrees.AddedRows.{LeftToAdd}
use Rattle.js_tree.proofs.rows.keeping.Keeper.+keep_trees.Given as goal

abbrev pub decreases-keep_below : goal.decreases-keep_below
decreases-keep_below l = 3 * length l.rows.now

abbrev pub decreases-keep_node : goal.decreases-keep_node
decreases-keep_node l = 3 * length l.rows.now

abbrev pub decreases-keep_tree : goal.decreases-keep_tree
decreases-keep_tree l = 3 * length l.rows.now + 1

abbrev pub decreases-keep_trees : goal.decreases-keep_trees
decreases-keep_trees l = 3 * length l.rows.now + 2

abbrev pub invariant-keep_trees-loop-next : goal.invariant-keep_trees-loop-next
invariant-keep_trees-loop-next l =
    (l.next ≤ length l.rows)
    × StaysPending l.fn.self l.self
    × ((v : Bool) (f : Forest OutputUnit) → AreMarkedRows l.fn.rows l.marks v f
    → (left : Forest OutputUnit) × AreRowsOfTrees (drop l.next l.rows) left × (drop l.next l.marks ≡ marked v left))
    × ((v : Bool) (f : Forest OutputUnit) (keyword instance : List ℕ)
    → IsPending l.fn.self.between l.fn.self.start keyword instance → AreMarkedRows l.fn.rows l.marks v f
    → LeftToAdd v keyword instance l.fn.self.kept.items l.self.kept.items l.rows l.marks l.next f)

abbrev pub decreases-keep_trees-loop-next : goal.decreases-keep_trees-loop-next
decreases-keep_trees-loop-next l = length l.rows - l.next
