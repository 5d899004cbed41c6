use Rattle.std.proofs.Common.{◌≡◌, ◌++◌, List, drop}
use Rattle.js_output.specs.Suite.{AreTestLines}
use Rattle.js_output.specs.code.SuiteJudging.{basis_of}
use Rattle.js_output.specs.SuiteText.{tests_seen}
use Rattle.js_output.specs.declared.suite_lines.TestLine.{TestLine}
use Rattle.js_output.proofs.suite_judging.judge_tests.Given as goal

-- the lines so far, and those of the tests that are left, are all
abbrev pub invariant-loop-number : goal.invariant-loop-number
invariant-loop-number l =
    (done : List TestLine) × (l.lines.items ≡ l.initial.lines.items ++ done)
    × ((rest : List TestLine) → AreTestLines (basis_of l.entry) l.group l.number (tests_seen (drop l.number l.tests))
    rest → AreTestLines (basis_of l.entry) l.group 0 (tests_seen l.tests) (done ++ rest))
