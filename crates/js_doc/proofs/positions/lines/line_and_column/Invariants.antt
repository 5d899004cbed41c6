use Rattle.std.proofs.Common.{◌≡◌, ◌+◌, ◌≤◌, drop}
use Rattle.js_doc.specs.Positions.{line_and_column_past}
use Rattle.js_doc.proofs.positions.lines.line_and_column.Given as goal

-- the rest decides
abbrev pub invariant-loop-byte : goal.invariant-loop-byte
invariant-loop-byte l =
    (l.line ≤ l.byte-index + 1)
    × (l.column ≤ l.byte-index + 1)
    × (line_and_column_past 1 1 l.before ≡ line_and_column_past l.line l.column (drop l.byte-index l.before))
