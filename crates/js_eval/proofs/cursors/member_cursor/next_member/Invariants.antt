use Rattle.std.proofs.Common.{◌≡◌}
use Rattle.js_eval.specs.code.Cursors.{chosen_members}
use Rattle.js_eval.proofs.cursors.member_cursor.next_member.Given as goal

abbrev pub invariant-loop-name : goal.invariant-loop-name
invariant-loop-name l =
    record {
      can : (goal.iterator-loop-name).can_next l.members × (goal.iterator-loop-name).is_finite l.members;
      same : chosen_members l.choice l.members ≡ chosen_members l.choice l.initial.members;
    }
