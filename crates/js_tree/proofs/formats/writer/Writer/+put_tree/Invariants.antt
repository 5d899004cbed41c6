use Rattle.std.proofs.Common.{ℕ, List, ◌≤◌, ◌+◌, ◌-◌, ◌*◌, false, drop, length}
use Rattle.js_tree.specs.Forest.{Forest}
use Rattle.js_tree.specs.Form.{node_values}
use Rattle.js_tree.specs.OutputUnit.{OutputUnit}
use Rattle.js_tree.specs.Rows.Locations.{AreAt, IsBack}
use Rattle.js_tree.specs.Rows.Relative.{placed}
use Rattle.js_tree.specs.code.Listing.{values_text}
use Rattle.js_tree.specs.code.RelativeText.{AreRowsOfTrees}
use Rattle.js_tree.proofs.WrittenRows.Gathering.{LeftToPass}
use Rattle.js_tree.proofs.formats.writer.Writer.+put_tree.Given as goal

abbrev pub decreases-put_tree : goal.decreases-put_tree
decreases-put_tree g l = 3 * length l.rows.now

abbrev pub decreases-put_node : goal.decreases-put_node
decreases-put_node g l = 3 * length l.below.now + 2

abbrev pub decreases-put_trees : goal.decreases-put_trees
decreases-put_trees g l = 3 * length l.rows.now + 1

abbrev pub invariant-put_trees-loop-next : goal.invariant-put_trees-loop-next
invariant-put_trees-loop-next g l =
    (l.next ≤ length l.rows)
    × IsBack l.fn.self.locations l.self.locations
    × ((f : Forest OutputUnit) → AreRowsOfTrees l.rows f
    → (left : Forest OutputUnit) × AreRowsOfTrees (drop l.next l.rows) left
    × ((keyword instance : List ℕ) → AreAt l.fn.self.locations keyword instance
    → LeftToPass (g.O.Out.progress l.fn.out) (g.O.Out.progress l.out) l.fn.self.gathered.text.items
    l.self.gathered.text.items (values_text l.later (node_values (placed keyword instance left)))
    (values_text false (node_values (placed keyword instance f)))))

abbrev pub decreases-put_trees-loop-next : goal.decreases-put_trees-loop-next
decreases-put_trees-loop-next g l = length l.rows - l.next
