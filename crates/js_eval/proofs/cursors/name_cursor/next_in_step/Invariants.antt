use Rattle.std.proofs.Common.{◌≡◌, ◌∷◌, ◌+◌, ◌<◌, ◌^◌, ℕ, List, length, map}
use Rattle.js_doc.specs.Members.{IsAscending}
use Rattle.js_doc.specs.Seen.{pair_of}
use Rattle.js_doc.specs.Value.{Named}
use Rattle.js_doc.specs.declared.doc.Doc.{Doc}
use Rattle.js_eval.specs.code.NamesLeft.{AreLeft, names_left}
use Rattle.js_eval.proofs.cursors.name_cursor.next_in_step.Given as goal

abbrev pub invariant-loop-names : goal.invariant-loop-names
invariant-loop-names l =
    let n : List ℕ × Doc = (l.name, l.schema) in
    let m : List ℕ × Doc = (l.key, l.member) in
    record {
      same : names_left (map pair_of (m ∷ l.members)) (n ∷ l.names) ≡ names_left (map pair_of l.fn.members) l.fn.names;
      left : (all : Named) → AreLeft all l.fn.rank l.fn.names → AreLeft all l.at (n ∷ l.names);
      rank : l.rank ≡ l.at + 1;
      few : l.rank + length l.names < 2 ^ 64;
      names : IsAscending (map pair_of (n ∷ l.names));
      members : IsAscending (map pair_of (m ∷ l.members));
    }

abbrev pub decreases-loop-names : goal.decreases-loop-names
decreases-loop-names l = length l.names + length l.members
