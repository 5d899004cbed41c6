use Rattle.std.proofs.Common.{◌≡◌, ◌≤◌, map, drop, length}
use Rattle.js_doc.specs.Seen.{value_of}
use Rattle.js_assert.specs.Arrays.{equal_pair}
use Rattle.js_assert.proofs.Repeated.{HasTexts}
use Rattle.js_assert.proofs.unique.first_repeated.Given as goal

abbrev pub invariant-loop-i : goal.invariant-loop-i
invariant-loop-i l = record {
  within : l.first ≤ length l.docs;
  skipped : equal_pair l.i (map value_of (drop l.i l.docs)) ≡ equal_pair l.first (map value_of (drop l.first l.docs));
  texts : HasTexts l.later.keys (drop l.i l.docs);
}
