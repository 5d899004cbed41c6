use Rattle.std.proofs.Common.{◌≡◌, length}
use Rattle.js_eval.proofs.searching.pattern_answers.PatternAnswers.find_name.Given as goal

abbrev pub invariant-loop-own : goal.invariant-loop-own
invariant-loop-own l = l.self.pattern ≡ l.fn.self.pattern

abbrev pub decreases-loop-own : goal.decreases-loop-own
decreases-loop-own l = length l.self.left
