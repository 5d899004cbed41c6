use Rattle.std.proofs.Common.{◌≡◌, length}
use Rattle.js_eval.specs.code.KeywordsLeft.{members_left}
use Rattle.js_eval.specs.code.Turns.{ever}
use Rattle.js_eval.proofs.order.keyword_cursor.next_ever.Given as goal

abbrev pub invariant-loop-turn : goal.invariant-loop-turn
invariant-loop-turn l = ever (members_left l.left) ≡ ever (members_left l.fn.left)

abbrev pub decreases-loop-turn : goal.decreases-loop-turn
decreases-loop-turn l = length (members_left l.left)
