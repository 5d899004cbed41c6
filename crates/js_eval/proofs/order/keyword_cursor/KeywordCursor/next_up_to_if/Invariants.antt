use Rattle.std.proofs.Common.{◌≡◌, false, length}
use Rattle.js_eval.specs.code.KeywordsLeft.{members_left, up_to_if}
use Rattle.js_eval.proofs.order.keyword_cursor.KeywordCursor.next_up_to_if.Given as goal

abbrev pub invariant-loop-turn : goal.invariant-loop-turn
invariant-loop-turn l =
    record {
      same : up_to_if l.self.deferred (members_left l.self.left)
          ≡ up_to_if l.fn.self.deferred (members_left l.fn.self.left);
      before : l.self.is_past_if ≡ false;
    }

abbrev pub decreases-loop-turn : goal.decreases-loop-turn
decreases-loop-turn l = length (members_left l.self.left)
