use Rattle.std.proofs.Common.{◌≡◌, drop}
use Rattle.js_doc.specs.Seen.{value_of}
use Rattle.js_doc.specs.Lookup.{at}
use Rattle.js_doc.proofs.lookup.at_tokens.Given as goal

abbrev pub invariant-loop-token : goal.invariant-loop-token
invariant-loop-token l = at l.tokens (value_of l.root) ≡ at (drop l.token-index l.tokens) (value_of l.here)
