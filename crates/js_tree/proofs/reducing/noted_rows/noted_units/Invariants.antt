use Rattle.std.proofs.Common.{◌≡◌, ◌++◌, drop, map}
use Rattle.js_tree.specs.FlatState.{noted_of, row_of}
use Rattle.js_tree.proofs.reducing.noted_rows.noted_units.Given as goal

abbrev pub invariant-loop-row : goal.invariant-loop-row
invariant-loop-row l = map (λ unit. unit.now) l.found.items ++ noted_of (map row_of (drop l.row-index l.rows))
    ≡ noted_of (map row_of l.rows)
