use Rattle.std.proofs.Common.{◌≡◌, drop, map}
use Rattle.js_tree.specs.code.Compacting.{marked_rows}
use Rattle.js_tree.specs.Flat.{flat_of}
use Rattle.js_tree.specs.FlatState.{row_of}
use Rattle.js_tree.specs.Forest.{Forest}
use Rattle.js_tree.specs.OutputUnit.{OutputUnit}
use Rattle.js_tree.proofs.Marks.{from}
use Rattle.js_tree.proofs.reducing.compacting.mark.Given as goal

abbrev pub invariant-loop-i : goal.invariant-loop-i
invariant-loop-i l = record {
  same : map row_of l.rows ≡ map row_of l.initial.rows;
  marked : (f : Forest OutputUnit) → map row_of l.initial.rows ≡ flat_of f
      → drop l.i l.rows ≡ marked_rows l.keep (from l.i f);
}
