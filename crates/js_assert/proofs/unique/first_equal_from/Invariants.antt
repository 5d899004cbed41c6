use Rattle.std.proofs.Common.{◌≡◌, map, drop}
use Rattle.js_doc.specs.Seen.{value_of}
use Rattle.js_assert.specs.Arrays.{first_equal}
use Rattle.js_assert.proofs.unique.first_equal_from.Given as goal

abbrev pub invariant-loop-j : goal.invariant-loop-j
invariant-loop-j l =
    first_equal (value_of l.doc) l.start (map value_of (drop l.start l.docs))
    ≡ first_equal (value_of l.doc) l.j (map value_of (drop l.j l.docs))
