-- The outcome of a suite: what comes of each test of each group, in order, and the text that reports it.
use Rattle.std.specs.Prelude.{◌≡◌, ℕ, ◌+◌, List, [], ◌∷◌, ◌++◌, length, Option, Some, None}
use Rattle.std.specs.Prelude.{option_to_list, Result, Ok, Err, Bool, not, codes, decimal, ⊤}
use Rattle.js_doc.specs.Value.{Value}
use Rattle.js_bundle.specs.Document as bundle
use Rattle.js_bundle.specs.Resource.{Site}
use Rattle.js_eval.specs.Result.{ResultTree, IsWithinLimits, standard_limits}
use Rattle.js_eval.specs.declared.evaluation.limits.Limits.{Limits}
use Rattle.js_output.specs.Cause.{Causes, MayGoOn, IsFirstFault}
use Rattle.js_output.specs.Device.{Tracked, Sends, SendsBeginning}
use Rattle.js_output.specs.Documents.{DocumentTexts, absolute_uri, document_under, bundle_of, uri_causes}
use Rattle.js_output.specs.Documents.{bundle_causes, documents_causes}
use Rattle.js_output.specs.Entry.{entry_causes, entry_place}
use Rattle.js_output.specs.Outcome.{IsResultOf, NoResultStands}
use Rattle.js_output.specs.SuiteLines.{counts_of, lines_text}
use Rattle.js_output.specs.SuiteText.{SuiteTest, SuiteGroup, suite_reading}
use Rattle.js_output.specs.Report.{Report, After, OfInput}
use Rattle.js_output.specs.declared.fault.Fault.{Fault}
use Rattle.js_output.specs.declared.fault.Fault.TheVariants as fault
use Rattle.js_output.specs.declared.fault.SuiteFault.{SuiteFault}
use Rattle.js_output.specs.declared.suite_lines.Counts.{Counts}
use Rattle.js_output.specs.declared.suite_lines.TestLine.{TestLine}
use Rattle.js_output.specs.declared.suite_lines.TestStatus.{TestStatus}
use Rattle.js_output.specs.declared.suite_lines.TestStatus.TheVariants.{Pass, Fail, Skip}

-- ---- the documents of a group: those that are passed in, and its schema, which is the entry

abbrev pub group_uri : ℕ → List ℕ
group_uri g = codes "https://suite.example/" ++ decimal g

-- a value under a URI, where it is one
abbrev pub with_root : List ℕ → Value → bundle.Documents
with_root uri root = option_to_list (document_under (absolute_uri uri) (Ok root))

abbrev pub documents_with : bundle.Documents → List ℕ → Value → bundle.Documents
documents_with documents uri schema = documents ++ with_root uri schema

abbrev pub with_schema : bundle.Documents → ℕ → Value → bundle.Documents
with_schema documents g schema = documents_with documents (group_uri g) schema

-- ---- what is refused of them: of the schema's URI, of them whole, and of the entry

abbrev pub whole_causes : bundle.Documents → List ℕ → Causes
whole_causes documents uri = bundle_causes documents ++ entry_causes documents uri

abbrev pub causes_with : bundle.Documents → List ℕ → Value → Causes
causes_with documents uri schema = uri_causes (length documents) uri
    ++ whole_causes (documents_with documents uri schema) uri

abbrev pub group_causes : bundle.Documents → ℕ → Value → Causes
group_causes documents g schema = causes_with documents (group_uri g) schema

-- what the tests are judged by: these documents, or nothing where they are refused or the schema isn't whole
abbrev pub IsBasis : bundle.Documents → ℕ → Option Value → Option bundle.Documents → Type 0
IsBasis documents g None basis = basis ≡ None
IsBasis documents g (Some schema) None = (f : Fault) × IsFirstFault (group_causes documents g schema) f
IsBasis documents g (Some schema) (Some all) = MayGoOn (group_causes documents g schema)
    × (all ≡ with_schema documents g schema)

-- ---- what comes of a test

-- the verdict on v
abbrev pub HasVerdict : Limits → bundle.Documents → Option Site → Value → Bool → Type 0
HasVerdict limits documents entry v valid = (t : ResultTree) × IsResultOf documents entry v t × IsWithinLimits limits t
    × (t.root.valid ≡ valid)

abbrev pub IsStatusOn : bundle.Documents → Option Site → Value → Bool → TestStatus → Type 0
IsStatusOn documents entry v valid Pass = HasVerdict standard_limits documents entry v valid
IsStatusOn documents entry v valid Fail = HasVerdict standard_limits documents entry v (not valid)
IsStatusOn documents entry v valid Skip = NoResultStands standard_limits documents entry v

-- by the documents that its group is judged by, and its instance
abbrev pub IsStatusBy : Option bundle.Documents → ℕ → Option Value → Bool → TestStatus → Type 0
IsStatusBy (Some all) g (Some v) valid status = IsStatusOn all (entry_place all (group_uri g)) v valid status
IsStatusBy _ g _ valid status = status ≡ Skip

-- ---- lines

module _ (basis : Option bundle.Documents) (g : ℕ) where
  pub record IsLine (n : ℕ) (test : SuiteTest) (line : TestLine) : Type 0 where
    pub status : IsStatusBy basis g test.instance test.valid line.status
    pub group : line.group ≡ g
    pub number : line.test ≡ n
    pub description : line.description ≡ test.description

  -- of tests, the first of which has the number n
  abbrev pub AreTestLines : ℕ → List SuiteTest → List TestLine → Type 0
  AreTestLines n [] lines = lines ≡ []
  AreTestLines n (test ∷ tests) [] = ⊥
  AreTestLines n (test ∷ tests) (line ∷ lines) = IsLine n test line × AreTestLines (n + 1) tests lines

abbrev pub AreGroupLines : bundle.Documents → ℕ → SuiteGroup → List TestLine → Type 0
AreGroupLines documents g group lines = (basis : Option bundle.Documents) × IsBasis documents g group.schema basis
    × AreTestLines basis g 0 group.tests lines

-- of groups, the first of which has the number g
abbrev pub AreLines : bundle.Documents → ℕ → List SuiteGroup → List TestLine → Type 0
AreLines documents g [] lines = lines ≡ []
AreLines documents g (group ∷ groups) lines =
    (these : List TestLine) × (later : List TestLine) × (lines ≡ these ++ later) × AreGroupLines documents g group these
    × AreLines documents (g + 1) groups later

-- ---- the outcome

-- what a suite's text is read as: its lines come, or its fault
abbrev pub ReadLines : bundle.Documents → Result (List SuiteGroup) SuiteFault → Result (List TestLine) Fault → Type 0
ReadLines documents (Ok groups) (Ok lines) = AreLines documents 0 groups lines
ReadLines documents (Ok groups) (Err f) = ⊥
ReadLines documents (Err e) answer = answer ≡ Err (fault.Suite e)

-- the documents alone come first
abbrev pub SuiteOutcome : DocumentTexts → List ℕ → Result (List TestLine) Fault → Type 0
SuiteOutcome documents bytes =
    After (documents_causes documents) (OfInput bytes (ReadLines (bundle_of documents) (suite_reading bytes)))

-- ---- what is returned

-- the counts; the lines' text is written
abbrev pub lines_report : Report (List TestLine) Counts
lines_report = record { answer = counts_of; text = lines_text }

-- ---- words for the parts

-- the faults from the suite's text on, or lack of memory
abbrev pub IsSuiteLate : Fault → Type 0
IsSuiteLate fault.Memory = ⊤
IsSuiteLate (fault.Suite e) = ⊤
IsSuiteLate fault.Write = ⊤
IsSuiteLate _ = ⊥

-- these lines are reported, or why they aren't
abbrev pub SendsLines : {D : Type 0} → (D → Option (List ℕ)) → Tracked D → Tracked D → List TestLine
    → Result Counts Fault → Type 0
SendsLines taken old new lines (Ok counts) = (counts_of lines ≡ counts) × Sends taken old new (lines_text lines)
SendsLines taken old new lines (Err fault.Memory) = ⊤
SendsLines taken old new lines (Err fault.Write) = SendsBeginning taken old new (lines_text lines)
SendsLines taken old new lines (Err _) = ⊥
