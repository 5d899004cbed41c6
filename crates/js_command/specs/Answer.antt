-- What the program answers: the outcome of what its words ask for, by what the files and the input hold.
use Rattle.std.specs.Prelude.{◌≡◌, ◌≤◌, ◌⊎◌, ℕ, ◌==◌, List, [], ◌∷◌, ◌++◌, length, Option}
use Rattle.std.specs.Prelude.{Result, Ok, Err, Bool, true, ◌&&◌, ⊤}
use Rattle.std.specs.Io.KnownBytes.{Appends}
use Rattle.js_output.specs.Cause.{MayGoOn, IsFirstFault}
use Rattle.js_output.specs.Device.{Tracked, input_limit, IsLeft, AppendsBeginning, Sends, SendsBeginning}
use Rattle.js_output.specs.Documents.{DocumentTexts, documents_causes}
use Rattle.js_output.specs.Outcome.{Output, Outcome, PairOutcome}
use Rattle.js_output.specs.Places.{places_text}
use Rattle.js_output.specs.Suite.{SuiteOutcome}
use Rattle.js_output.specs.SuiteLines.{counts_of, lines_text}
use Rattle.js_output.specs.declared.suite_lines.Counts.{Counts}
use Rattle.js_output.specs.declared.fault.Fault.{Fault}
use Rattle.js_output.specs.declared.fault.Fault.TheVariants as fault
use Rattle.js_command.specs.Files.{ContentsByPath, IsFirstFileFault}
use Rattle.js_command.specs.Words.{DocumentPairs, files_of, Request, pair, check, suite, places, request_of}
use Rattle.js_command.specs.declared.words.Misuse.{Misuse}

-- each document has its URI, and is what its file holds, within the limit
abbrev pub AreContents : ContentsByPath → DocumentPairs → DocumentTexts → Type 0
AreContents contents [] [] = ⊤
AreContents contents (p ∷ ps) (d ∷ ds) = (d.0 ≡ p.0) × IsLeft (contents p.1) d.1 × (length d.1 ≤ input_limit)
    × AreContents contents ps ds
AreContents contents _ _ = ⊥

-- what comes of documents whose places are listed
abbrev pub PlacesOutcome : DocumentTexts → Result Output Fault → Type 0
PlacesOutcome documents (Ok output) = MayGoOn (documents_causes documents)
    × (output ≡ record { valid = true; text = places_text documents })
PlacesOutcome documents (Err f) = IsFirstFault (documents_causes documents) f

-- no test of a suite failed, and none was skipped
abbrev pub all_passed : Counts → Bool
all_passed counts = (counts.failed == 0) && (counts.skipped == 0)

abbrev pub suite_output : Counts → List ℕ → Output
suite_output counts text = record { valid = all_passed counts; text = text }

-- what comes of a suite
abbrev pub SuiteReported : DocumentTexts → List ℕ → Result Output Fault → Type 0
SuiteReported documents bytes (Ok output) = (lines : _) × SuiteOutcome documents bytes (Ok lines)
    × (output ≡ suite_output (counts_of lines) (lines_text lines))
SuiteReported documents bytes (Err f) = SuiteOutcome documents bytes (Err f)

-- what comes of the standard input, which can't be read if it has failed
abbrev pub OverInput : Bool → (Result Output Fault → Type 0) → Result Output Fault → Type 0
OverInput failed Expected (Err fault.Read) = failed ≡ true
OverInput failed Expected answer = Expected answer

-- what comes of files, which are read in this order
abbrev pub OverFiles : ContentsByPath → List (List ℕ) → (Result Output Fault → Type 0) → Result Output Fault → Type 0
OverFiles contents paths Expected (Err fault.Read) = IsFirstFileFault contents paths fault.Read
OverFiles contents paths Expected (Err fault.InputTooLarge) = IsFirstFileFault contents paths fault.InputTooLarge
    ⊎ Expected (Err fault.InputTooLarge)
OverFiles contents paths Expected answer = Expected answer

-- what comes of documents, and of a file that is judged by them
abbrev pub OverTexts : ContentsByPath → DocumentPairs → List ℕ
    → (DocumentTexts → List ℕ → Result Output Fault → Type 0) → Result Output Fault → Type 0
OverTexts contents pairs file Expected answer =
    OverFiles contents (files_of pairs ++ file ∷ [])
    (λ reported. (documents : DocumentTexts) × AreContents contents pairs documents
    × ((bytes : List ℕ) × IsLeft (contents file) bytes × Expected documents bytes reported)) answer

-- what comes of a request; `failed` if the standard input has failed at the end
abbrev pub RequestOutcome : ContentsByPath → Option (List ℕ) → Bool → Request → Result Output Fault → Type 0
RequestOutcome contents input failed pair answer =
    OverInput failed (λ reported. (bytes : List ℕ) × IsLeft input bytes × PairOutcome bytes reported) answer
RequestOutcome contents input failed (check format instance entry pairs) answer =
    OverTexts contents pairs instance (λ documents. Outcome documents entry format) answer
RequestOutcome contents input failed (suite file pairs) answer =
    OverTexts contents pairs file SuiteReported answer
RequestOutcome contents input failed (places pairs) answer =
    OverFiles contents (files_of pairs) (λ reported. (documents : DocumentTexts)
    × AreContents contents pairs documents
    × PlacesOutcome documents reported) answer

-- The verdict is returned if the output's text was written, and `Write` if the sink has failed after a prefix of
-- it; any other fault, except lack of memory, if it comes.
abbrev pub Performs : {D : Type 0} → (Result Output Fault → Type 0) → (D → Option (List ℕ)) → Tracked D → Tracked D
    → Result Bool Fault → Type 0
Performs Expected taken old new (Ok valid) = (output : Output) × Expected (Ok output) × (output.valid ≡ valid)
    × Sends taken old new output.text
Performs Expected taken old new (Err fault.Memory) = ⊤
Performs Expected taken old new (Err fault.Write) = (output : Output) × Expected (Ok output)
    × SendsBeginning taken old new output.text
Performs Expected taken old new (Err f) = Expected (Err f)

-- a text was written; or the device has failed, after a prefix of it
abbrev pub IsWrittenOrFailed : Option (List ℕ) → Option (List ℕ) → Bool → List ℕ → Type 0
IsWrittenOrFailed old new failed text = Appends old new text ⊎ ((failed ≡ true) × AppendsBeginning old new text)

-- it comes to this verdict, and its text was written
abbrev pub IsReported : (Result Output Fault → Type 0) → Bool → Option (List ℕ) → Option (List ℕ) → Type 0
IsReported Expected valid old new = (output : Output) × Expected (Ok output) × (output.valid ≡ valid)
    × Appends old new output.text

-- it comes to an output, and a prefix of its text was written
abbrev pub IsPartlyReported : (Result Output Fault → Type 0) → Option (List ℕ) → Option (List ℕ) → Type 0
IsPartlyReported Expected old new = (output : Output) × Expected (Ok output) × AppendsBeginning old new output.text

-- why a fault is reported: memory ran out; or the output has failed, after a prefix of a text; or this fault comes
abbrev pub IsReason : (Result Output Fault → Type 0) → Option (List ℕ) → Option (List ℕ) → Bool → Fault → Type 0
IsReason Expected old new failed fault.Memory = ⊤
IsReason Expected old new failed fault.Write = (failed ≡ true) × IsPartlyReported Expected old new
IsReason Expected old new failed f = Expected (Err f)

-- what comes of the request that the words make
abbrev pub WordsOutcome : List (List ℕ) → ContentsByPath → Option (List ℕ) → Bool → Result Output Fault → Type 0
WordsOutcome words contents input failed answer = (request : Request) × (request_of words ≡ Ok request)
    × RequestOutcome contents input failed request answer

-- Standard input is read for a pair alone. If it has failed then, the status is 4.
abbrev pub UsesInput : {D : Type 0} → Result Request Misuse → Tracked D → Tracked D → ℕ → Type 0
UsesInput (Ok pair) old new status = new.failed ≡ true → status ≡ 4
UsesInput asked old new status = new ≡ old
