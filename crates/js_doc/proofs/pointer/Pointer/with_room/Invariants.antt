use Rattle.std.proofs.Common.{◌≡◌, take}
use Rattle.js_doc.proofs.pointer.Pointer.with_room.Given as goal

abbrev pub invariant-loop-token : goal.invariant-loop-token
invariant-loop-token l = l.tokens.items ≡ take l.token-index l.token-items
