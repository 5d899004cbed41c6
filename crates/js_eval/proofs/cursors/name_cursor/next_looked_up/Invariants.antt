use Rattle.std.proofs.Common.{◌≡◌, ◌+◌, ◌<◌, ◌^◌, length, map}
use Rattle.js_doc.specs.Members.{IsAscending}
use Rattle.js_doc.specs.Seen.{pair_of}
use Rattle.js_doc.specs.Value.{Named}
use Rattle.js_eval.specs.code.NamesLeft.{AreLeft, names_left}
use Rattle.js_eval.proofs.cursors.name_cursor.next_looked_up.Given as goal

abbrev pub invariant-loop-name : goal.invariant-loop-name
invariant-loop-name l =
    record {
      can : (goal.iterator-loop-name).can_next l.names × (goal.iterator-loop-name).is_finite l.names;
      same : names_left l.members l.names ≡ names_left l.members l.initial.names;
      left : (all : Named) → AreLeft all l.initial.rank l.initial.names → AreLeft all l.rank l.names;
      few : l.rank + length l.names < 2 ^ 64;
      ascend : IsAscending (map pair_of l.names);
    }
