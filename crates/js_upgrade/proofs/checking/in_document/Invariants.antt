use Rattle.std.proofs.Common.{◌≡◌, ◌++◌, reverse, take}
use Rattle.js_upgrade.proofs.checking.in_document.Given as goal

-- what is done and the way back from the rest make the whole
abbrev pub invariant-loop-i : goal.invariant-loop-i
invariant-loop-i l = l.place ++ reverse (take l.i l.tokens) ≡ reverse l.tokens
