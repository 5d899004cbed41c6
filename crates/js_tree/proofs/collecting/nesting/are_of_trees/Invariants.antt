use Rattle.std.proofs.Common.{◌≡◌, drop, map}
use Rattle.js_tree.specs.Flat.{flat_of}
use Rattle.js_tree.specs.FlatState.{row_of}
use Rattle.js_tree.specs.Forest.{Forest}
use Rattle.js_tree.specs.OutputUnit.{OutputUnit}
use Rattle.js_tree.proofs.collecting.nesting.are_of_trees.Given as goal

abbrev pub invariant-loop-i : goal.invariant-loop-i
invariant-loop-i l = (f : Forest OutputUnit) × (map row_of (drop l.i l.rows) ≡ flat_of f)
