use Rattle.std.proofs.Common.{◌≡◌, ◌+◌, drop}
use Rattle.js_bundle.specs.code.TextPrefix.{tokens_alike}
use Rattle.js_bundle.proofs.index.text_prefix.tokens_alike.Given as goal

abbrev pub invariant-loop-i : goal.invariant-loop-i
invariant-loop-i l = tokens_alike l.tokens l.others ≡ l.i + tokens_alike (drop l.i l.tokens) (drop l.i l.others)
