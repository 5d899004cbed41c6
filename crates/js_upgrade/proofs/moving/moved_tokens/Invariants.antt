use Rattle.std.proofs.Common.{◌≡◌, Some, drop}
use Rattle.js_doc.specs.Seen.{value_of}
use Rattle.js_upgrade.specs.Moved.{both, moved_tokens}
use Rattle.js_upgrade.proofs.moving.moved_tokens.Given as goal

-- what was pushed and what the rest becomes make the whole
abbrev pub invariant-loop-i : goal.invariant-loop-i
invariant-loop-i l =
    both (Some l.out) (moved_tokens l.held.holding l.held.dialect (value_of l.here) (drop l.i l.tokens))
    ≡ moved_tokens l.fn.holding l.fn.dialect (value_of l.value) l.tokens
