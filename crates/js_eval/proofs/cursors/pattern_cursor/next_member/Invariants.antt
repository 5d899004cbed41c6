use Rattle.std.proofs.Common.{◌≡◌, map, filter}
use Rattle.js_assert.specs.Pattern.{matches}
use Rattle.js_doc.specs.Seen.{pair_of}
use Rattle.js_eval.proofs.cursors.pattern_cursor.next_member.Given as goal

abbrev pub invariant-loop-name : goal.invariant-loop-name
invariant-loop-name l =
    record {
      can : (goal.iterator-loop-name).can_next l.members × (goal.iterator-loop-name).is_finite l.members;
      same : filter (λ m. matches l.pattern.text.now m.0) (map pair_of l.members)
          ≡ filter (λ m. matches l.pattern.text.now m.0) (map pair_of l.initial.members);
    }
