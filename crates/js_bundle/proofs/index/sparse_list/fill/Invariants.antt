use Rattle.std.proofs.Common.{◌≡◌, length}
use Rattle.js_bundle.specs.code.SparseList.{HaveSameEntries}
use Rattle.js_bundle.proofs.index.sparse_list.fill.Given as goal

abbrev pub invariant-loop : goal.invariant-loop
invariant-loop l = record
    { alike : HaveSameEntries l.initial.entries.items l.entries.items; long : length l.entries.items ≡ l.counter }
