use Rattle.std.proofs.Common.{◌≡◌, ◌∷◌, ◌++◌, drop}
use Rattle.js_output.proofs.suite_text.below.Given as goal

-- what was put and what is left are the whole
abbrev pub invariant-loop-next : goal.invariant-loop-next
invariant-loop-next l = l.place ++ drop l.next-index l.next-items ≡ l.token ∷ l.rest
