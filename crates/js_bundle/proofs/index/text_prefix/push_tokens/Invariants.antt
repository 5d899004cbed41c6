use Rattle.std.proofs.Common.{◌≡◌, ◌++◌, drop, string_bytes}
use Rattle.js_bundle.specs.code.TextPrefix.{text_of_tokens}
use Rattle.js_bundle.proofs.index.text_prefix.push_tokens.Given as goal

abbrev pub invariant-loop-i : goal.invariant-loop-i
invariant-loop-i l = string_bytes l.text ++ text_of_tokens l.notation (drop l.i l.tokens)
    ≡ string_bytes l.initial.text ++ text_of_tokens l.notation (drop l.from l.tokens)
