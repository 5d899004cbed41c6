use Rattle.std.proofs.Common.{◌≡◌, take}
use Rattle.js_output.specs.SuiteLines.{count_of}
use Rattle.js_output.specs.declared.suite_lines.TestStatus.TheVariants.{Pass, Fail, Skip}
use Rattle.js_output.proofs.suite_lines.counts_of.Given as goal

-- the lines so far are counted
abbrev pub invariant-loop-line : goal.invariant-loop-line
invariant-loop-line l =
    (l.passed ≡ count_of Pass (take l.line-index l.lines))
    × (l.failed ≡ count_of Fail (take l.line-index l.lines))
    × (l.skipped ≡ count_of Skip (take l.line-index l.lines))
