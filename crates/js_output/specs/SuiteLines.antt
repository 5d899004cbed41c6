-- The output of a suite: a line for each test, and one with the counts.
use Rattle.std.specs.Prelude.{ℕ, List, [], ◌∷◌, ◌++◌, Bool, true, false, count_by, flat_map, codes, decimal}
use Rattle.js_doc.specs.Compact.{quoted}
use Rattle.js_output.specs.declared.suite_lines.Counts.{Counts}
use Rattle.js_output.specs.declared.suite_lines.TestLine.{TestLine}
use Rattle.js_output.specs.declared.suite_lines.TestStatus.{TestStatus}
use Rattle.js_output.specs.declared.suite_lines.TestStatus.TheVariants.{Pass, Fail, Skip}

-- ---- a line for each test

abbrev pub status_word : TestStatus → List ℕ
status_word Pass = codes "pass"
status_word Fail = codes "fail"
status_word Skip = codes "skip"

-- the status, the numbers of the group and of the test in it, and the description as JSON text
abbrev pub line_text : TestLine → List ℕ
line_text line =
    status_word line.status ++ codes " " ++ decimal line.group ++ codes "." ++ decimal line.test ++ codes " "
    ++ quoted line.description ++ 10 ∷ []

-- ---- how many there are of each status

abbrev pub is_status : TestStatus → TestStatus → Bool
is_status Pass Pass = true
is_status Fail Fail = true
is_status Skip Skip = true
is_status _ _ = false

abbrev pub count_of : TestStatus → List TestLine → ℕ
count_of status lines = count_by (λ line. is_status status line.status) lines

abbrev pub counts_of : List TestLine → Counts
counts_of lines = record { passed = count_of Pass lines; failed = count_of Fail lines; skipped = count_of Skip lines }

abbrev pub counts_text : Counts → List ℕ
counts_text counts =
    codes "passed " ++ decimal counts.passed ++ codes ", failed " ++ decimal counts.failed ++ codes ", skipped "
    ++ decimal counts.skipped ++ 10 ∷ []

-- ---- the whole

abbrev pub lines_text : List TestLine → List ℕ
lines_text lines = flat_map line_text lines ++ counts_text (counts_of lines)
