use Rattle.std.proofs.Common.{◌≡◌, drop}
use Rattle.js_doc.proofs.Alike.{SameItems, SameEntries}
use Rattle.js_doc.proofs.equality.+equal.Given as goal

abbrev pub invariant-equal_entries-loop-i : goal.invariant-equal_entries-loop-i
invariant-equal_entries-loop-i l = SameEntries l.a l.b ≡ SameEntries (drop l.i l.a) (drop l.i l.b)

abbrev pub invariant-equal_items-loop-i : goal.invariant-equal_items-loop-i
invariant-equal_items-loop-i l = SameItems l.a l.b ≡ SameItems (drop l.i l.a) (drop l.i l.b)
