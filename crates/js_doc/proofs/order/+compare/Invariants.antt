use Rattle.std.proofs.Common.{◌≡◌, drop}
use Rattle.js_doc.proofs.Ordered.{ItemsOrder, EntriesOrder}
use Rattle.js_doc.proofs.order.+compare.Given as goal

abbrev pub invariant-compare_entries-loop-i : goal.invariant-compare_entries-loop-i
invariant-compare_entries-loop-i l = EntriesOrder l.a l.b ≡ EntriesOrder (drop l.i l.a) (drop l.i l.b)

abbrev pub invariant-compare_items-loop-i : goal.invariant-compare_items-loop-i
invariant-compare_items-loop-i l = ItemsOrder l.a l.b ≡ ItemsOrder (drop l.i l.a) (drop l.i l.b)
