use Rattle.std.proofs.Common.{◌++◌, List, drop}
use Rattle.js_output.specs.Suite.{AreLines}
use Rattle.js_output.specs.SuiteText.{groups_seen}
use Rattle.js_output.specs.declared.suite_lines.TestLine.{TestLine}
use Rattle.js_output.proofs.suite_judging.judged_lines.Given as goal

-- the lines so far, and those of the groups that are left, are all
abbrev pub invariant-loop-number : goal.invariant-loop-number
invariant-loop-number l =
    (rest : List TestLine) → AreLines l.schemas l.number (groups_seen (drop l.number l.groups)) rest
    → AreLines l.schemas 0 (groups_seen l.groups) (l.lines.items ++ rest)
