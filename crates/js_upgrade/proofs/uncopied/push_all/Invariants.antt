use Rattle.std.proofs.Common.{◌≡◌, ◌++◌, drop}
use Rattle.js_upgrade.proofs.uncopied.push_all.Given as goal

-- what there is and what is left make the whole
abbrev pub invariant-loop-i : goal.invariant-loop-i
invariant-loop-i l = l.out ++ drop l.i l.tokens ≡ l.initial.out ++ l.tokens
