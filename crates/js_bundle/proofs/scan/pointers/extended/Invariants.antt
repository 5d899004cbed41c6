use Rattle.std.proofs.Common.{◌≡◌, ◌++◌, take}
use Rattle.js_bundle.proofs.scan.pointers.extended.Given as goal

abbrev pub invariant-loop-token : goal.invariant-loop-token
invariant-loop-token l = l.extended ≡ l.first ++ take l.token-index l.token-items
