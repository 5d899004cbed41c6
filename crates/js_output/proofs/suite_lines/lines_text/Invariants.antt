use Rattle.std.proofs.Common.{◌≡◌, ◌++◌, drop, flat_map, string_bytes}
use Rattle.js_output.specs.SuiteLines.{line_text}
use Rattle.js_output.proofs.suite_lines.lines_text.Given as goal

-- what was written and what is left to write are all lines
abbrev pub invariant-loop-line : goal.invariant-loop-line
invariant-loop-line l = string_bytes l.text ++ flat_map line_text (drop l.line-index l.lines)
    ≡ flat_map line_text l.lines
