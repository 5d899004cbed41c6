use Rattle.std.proofs.Common.{◌≡◌, ◌≤◌, length, vec_capacity}
use Rattle.js_bundle.proofs.Indexing.ResourceTableMade.{AreOpened}
use Rattle.js_bundle.proofs.index.resource_table.roots_of.Given as goal

abbrev pub invariant-loop-i : goal.invariant-loop-i
invariant-loop-i l =
    record {
      opened : AreOpened l.begins l.i l.ranks.items l.anchors.items;
      count : length l.ranks.items ≡ l.i;
      room : length l.begins ≤ vec_capacity l.ranks;
    }
