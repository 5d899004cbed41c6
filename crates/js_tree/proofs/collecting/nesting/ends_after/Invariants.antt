use Rattle.std.proofs.Common.{◌≡◌, ◌≤◌, drop, length, map}
use Rattle.js_tree.specs.Flat.{flat_of}
use Rattle.js_tree.specs.FlatState.{row_of}
use Rattle.js_tree.specs.Forest.{Forest}
use Rattle.js_tree.specs.code.Nesting.{ends_after}
use Rattle.js_tree.specs.OutputUnit.{OutputUnit}
use Rattle.js_tree.proofs.collecting.nesting.ends_after.Given as goal

abbrev pub invariant-loop-left : goal.invariant-loop-left
invariant-loop-left l =
    (l.next ≤ length l.rows)
    × ((f : Forest OutputUnit) → map row_of (drop l.first l.rows) ≡ flat_of f
    → (g : Forest OutputUnit) × (map row_of (drop l.next l.rows) ≡ flat_of g)
    × (ends_after l.left g ≡ ends_after l.count f))

abbrev pub decreases-loop-left : goal.decreases-loop-left
decreases-loop-left l = l.left
