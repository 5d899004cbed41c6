use Rattle.std.proofs.Common.{◌≡◌, ◌+◌, drop}
use Rattle.json.specs.Lex.{between}
use Rattle.js_doc.specs.Positions.{bytes_before}
use Rattle.js_doc.specs.code.Modes.{mode_of}
use Rattle.js_doc.proofs.positions.starts.token_start.Given as goal

-- what is passed, and what the rest says
abbrev pub invariant-loop-byte : goal.invariant-loop-byte
invariant-loop-byte l =
    (l.at ≡ l.byte-index)
    × (bytes_before between l.before l.text ≡ l.at + bytes_before (mode_of l.within) l.left (drop l.byte-index l.text))
