use Rattle.std.proofs.Common.{◌≡◌, ◌≤◌, ◌++◌, drop, take, map}
use Rattle.js_tree.specs.code.Compacting.{gathered}
use Rattle.js_tree.specs.FlatState.{row_of}
use Rattle.js_tree.proofs.reducing.compacting.gather.Given as goal

abbrev pub invariant-loop-i : goal.invariant-loop-i
invariant-loop-i l = record {
  root : 1 ≤ l.count;
  at_most : l.count ≤ l.i;
  gathered : map row_of (take l.count l.rows) ++ gathered l.keep l.gone (drop l.i l.rows)
      ≡ map row_of (take 1 l.initial.rows) ++ gathered l.keep 0 (drop 1 l.initial.rows);
}
