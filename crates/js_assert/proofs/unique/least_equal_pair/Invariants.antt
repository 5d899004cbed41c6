use Rattle.std.proofs.Common.{◌≡◌, map, drop}
use Rattle.js_doc.specs.Seen.{value_of}
use Rattle.js_assert.specs.Arrays.{equal_pair}
use Rattle.js_assert.proofs.unique.least_equal_pair.Given as goal

abbrev pub invariant-loop-i : goal.invariant-loop-i
invariant-loop-i l = equal_pair 0 (map value_of l.docs) ≡ equal_pair l.i (map value_of (drop l.i l.docs))
