-- What the program answers, by where it stops.
use Rattle.std.proofs.Common.{◌≡◌, ◌≢◌, ℕ, List, [], ◌∷◌, ◌++◌, Option, None, Result, Ok, Err, OnErr, IsErrOf}
use Rattle.std.proofs.Common.{Bool, true, false, ◌⊎◌, inl, inr, refl, sym, ap, ◌∙◌, subst, arith, ◌<◌, ◌≤◌, length}
use Rattle.std.specs.Borrow.{Bor}
use Rattle.std.specs.Io.KnownBytes.{Keeps}
use Rattle.js_output.specs.Cause.{FailsBy}
use Rattle.js_output.specs.Device.{Tracked, input_limit, IsLeft, Sends, SendsBeginning}
use Rattle.js_output.specs.Documents.{DocumentTexts, bundle_of, documents_causes}
use Rattle.js_output.specs.Entry.{entry_causes, entry_place}
use Rattle.js_output.specs.Outcome.{beginning_causes, FinishedOutcome, InstanceOutcome, Output, Outcome, PairOutcome}
use Rattle.js_output.specs.Outcome.{output_report}
use Rattle.js_output.specs.Places.{lines_of, places_text}
use Rattle.js_output.specs.Suite.{ReadLines, SuiteOutcome, lines_report}
use Rattle.js_output.specs.SuiteLines.{counts_of, lines_text}
use Rattle.js_output.specs.SuiteText.{suite_reading}
use Rattle.js_output.specs.Report.{Answers, OfInput, Reports}
use Rattle.js_bundle.specs.Document as bundle
use Rattle.js_bundle.specs.Resource.{sites}
use Rattle.js_eval.specs.Result.{standard_limits}
use Rattle.js_output.specs.declared.suite_lines.Counts.{Counts}
use Rattle.js_output.specs.declared.fault.Fault.{Fault}
use Rattle.js_output.specs.declared.fault.Fault.TheVariants as fault
use Rattle.js_tree.specs.declared.formats.Format.{Format}
use Rattle.js_command.specs.Answer.{AreContents, OverFiles, OverTexts, PlacesOutcome, RequestOutcome}
use Rattle.js_command.specs.Answer.{SuiteReported, all_passed, suite_output, WordsOutcome}
use Rattle.js_command.specs.Answer.{Performs, IsPartlyReported, IsReason}
use Rattle.js_command.specs.Files.{ContentsByPath, IsFirstFileFault}
use Rattle.js_command.specs.Status.{misuse_status}
use Rattle.js_command.specs.code.Taken.{AreFinishedAs}
use Rattle.js_command.specs.code.Tasks.{judging_seen, request_by}
use Rattle.js_command.specs.declared.words.Judgement.{Judgement}
use Rattle.js_command.specs.declared.words.Misuse.{Misuse}
use Rattle.js_command.specs.declared.words.Misuse.TheVariants as misuse
use Rattle.js_command.specs.declared.words.Subject.{Subject}
use Rattle.js_command.specs.declared.words.Subject.TheVariants as subject
use Rattle.js_command.specs.Words.{DocumentPairs, files_of, Request, pair, places, request_of, pairs_seen}
use Rattle.js_command.proofs.FileFaults.{input_fault}
use Rattle.js_output.proofs.Answering.{after-clear, input-within, reports-early, reports-map}
use Rattle.js_output.proofs.CauseLists.{fails-append}
use Rattle.js_output.proofs.FinishedSchemas.{outcome_over}

-- a file isn't taken
pub performs-fault : {D : Type 0} (contents : ContentsByPath) (paths : List (List ℕ)) (P : Result Output Fault → Type 0)
    (taken : D → Option (List ℕ)) (old new : Tracked D) (e : Fault)
    → (¬ (e ≡ fault.Memory) → IsFirstFileFault contents paths e)
    → Performs (OverFiles contents paths P) taken old new (Err e)
performs-fault contents paths P taken old new fault.Memory h = tt
performs-fault contents paths P taken old new fault.Read h = h (λ e. cc)
performs-fault contents paths P taken old new fault.InputTooLarge h = inl (h (λ e. cc))
performs-fault contents paths P taken old new fault.Write h =
    absurd (input_fault contents paths fault.Write (h (λ e. cc)))
performs-fault contents paths P taken old new _ h = absurd (input_fault contents paths _ (h (λ e. cc)))

module _ (words : List (List ℕ)) (contents : ContentsByPath) (input : Option (List ℕ)) (unread : Bool)
    (request : Request)
    (old new : Option (List ℕ)) (failed : Bool) where
  -- where something failed
  pub begun_or_kept : (e : Fault) → request_of words ≡ Ok request → (¬ (e ≡ fault.Write) → Keeps old new)
      → IsReason (RequestOutcome contents input unread request) old new failed e
      → Keeps old new ⊎ ((failed ≡ true) × IsPartlyReported (WordsOutcome words contents input unread) old new)
  begun_or_kept fault.Write asks kept (stands, (output, h, out)) = inr (stands, (output, (request, asks, h), out))
  begun_or_kept _ asks kept reason = inl (kept (λ e. cc))

  -- the reason is one by the words
  pub words_reason : (e : Fault) → request_of words ≡ Ok request
      → IsReason (RequestOutcome contents input unread request) old new failed e
      → IsReason (WordsOutcome words contents input unread) old new failed e
  words_reason fault.Memory asks reason = tt
  words_reason fault.Write asks (stands, (output, h, out)) = (stands, (output, (request, asks, h), out))
  words_reason _ asks reason = (request, asks, reason)

-- ---- documents, and a file that is judged by them

module _ {D : Type 0} (contents : ContentsByPath) (pairs : DocumentPairs) (file : List ℕ) (taken : D → Option (List ℕ))
    (old new : Tracked D) where
  -- they are taken
  texts_reported : (documents : DocumentTexts) (bytes : List ℕ)
      (Expected : DocumentTexts → List ℕ → Result Output Fault → Type 0) (answer : Result Bool Fault)
      → AreContents contents pairs documents → IsLeft (contents file) bytes
      → Reports output_report (Expected documents bytes) taken old new answer
      → Performs (OverTexts contents pairs file Expected) taken old new answer
  texts_reported documents bytes Expected (Ok valid) holds here (output, h, same, sent) =
      (output, (documents, holds, (bytes, here, h)), same, sent)
  texts_reported documents bytes Expected (Err fault.Write) holds here (output, h, begun) =
      (output, (documents, holds, (bytes, here, h)), begun)
  texts_reported documents bytes Expected (Err fault.Memory) holds here h = tt
  texts_reported documents bytes Expected (Err fault.Read) holds here h = absurd h
  texts_reported documents bytes Expected (Err fault.InputTooLarge) holds here h =
      inr (documents, holds, (bytes, here, h))
  texts_reported documents bytes Expected (Err _) holds here h = (documents, holds, (bytes, here, h))

  -- one isn't
  pub texts_untaken : (subject : Subject) (e : Fault)
      → (¬ (e ≡ fault.Memory) → IsFirstFileFault contents (files_of pairs ++ file ∷ []) e)
      → Performs (RequestOutcome contents None false (request_by subject file pairs)) taken old new (Err e)
  texts_untaken (subject.Instance format entry) e h =
      performs-fault contents (files_of pairs ++ file ∷ [])
      (λ reported. (documents : DocumentTexts) × AreContents contents pairs documents
      × ((bytes : List ℕ) × IsLeft (contents file) bytes × Outcome documents entry.now format bytes
      reported)) taken old new e h
  texts_untaken subject.Suite e h =
      performs-fault contents (files_of pairs ++ file ∷ [])
      (λ reported. (documents : DocumentTexts) × AreContents contents pairs documents
      × ((bytes : List ℕ) × IsLeft (contents file) bytes × SuiteReported documents bytes reported)) taken old new e h

-- the files hold these texts
module _ (contents : ContentsByPath) (judging : Judgement) (documents : DocumentTexts) (bytes : List ℕ)
    (holds : AreContents contents (pairs_seen judging.documents.items) documents)
    (here : IsLeft (contents judging.file.now) bytes)
    {D : Type 0} (taken : D → Option (List ℕ)) (old new : Tracked D) where
  judged_reported : (Expected : DocumentTexts → List ℕ → Result Output Fault → Type 0) (answer : Result Bool Fault)
      → Reports output_report (Expected documents bytes) taken old new answer
      → Performs (OverTexts contents (pairs_seen judging.documents.items) judging.file.now Expected) taken old new
      answer
  judged_reported Expected answer h =
      texts_reported contents (pairs_seen judging.documents.items) judging.file.now taken old new documents
      bytes Expected answer holds here h

  -- the answer to what this subject asks is the task's
  of_subject : (s : Subject) (answer : Result Bool Fault) → judging.subject ≡ s
      → Performs (RequestOutcome contents None false (request_by s judging.file.now
      (pairs_seen judging.documents.items))) taken old new answer
      → Performs (RequestOutcome contents None false (judging_seen judging)) taken old new answer
  of_subject s answer e h = subst (λ s. Performs (RequestOutcome contents None false
      (request_by s judging.file.now (pairs_seen judging.documents.items))) taken old new answer) (sym e) h

  suite_output_fault : (f : Fault) → Reports lines_report (SuiteOutcome documents bytes) taken old new (Err f)
      → Reports output_report (SuiteReported documents bytes) taken old new (Err f)
  suite_output_fault fault.Write (lines, h, begun) =
      (suite_output (counts_of lines) (lines_text lines), (lines, h, refl), begun)
  suite_output_fault fault.Memory h = tt
  suite_output_fault fault.Read h = h
  suite_output_fault _ h = h

  -- the documents are refused
  refused_as : (s : Subject) (f : Fault) → FailsBy (documents_causes documents) f
      → Performs (RequestOutcome contents None false (request_by s judging.file.now
      (pairs_seen judging.documents.items))) taken old new (Err f)
  refused_as (subject.Instance format entry) f h =
      judged_reported (λ ds. Outcome ds entry.now format) (Err f)
      (reports-early output_report taken old new (beginning_causes documents entry.now)
      (InstanceOutcome (bundle_of documents) (entry_place (bundle_of documents) entry.now) format bytes) f
      (fails-append (documents_causes documents) (entry_causes (bundle_of documents) entry.now) f h))
  refused_as subject.Suite f h =
      judged_reported SuiteReported (Err f) (suite_output_fault f
      (reports-early lines_report taken old new (documents_causes documents)
      (OfInput bytes (ReadLines (bundle_of documents) (suite_reading bytes))) f h))

  pub documents_refused : (f : Fault) → AreFinishedAs documents (Err f)
      → Performs (RequestOutcome contents None false (judging_seen judging)) taken old new (Err f)
  documents_refused f h = refused_as judging.subject f h

  -- they aren't, and these are their schemas
  module _ (schemas : bundle.Documents) (finished : AreFinishedAs documents (Ok schemas)) where
    pub check_reported : (format : Format) (entry : Bor (List ℕ)) (answer : Result Bool Fault)
        → judging.subject ≡ subject.Instance format entry
        → Reports output_report (FinishedOutcome schemas entry.now format bytes) taken old new answer
        → Performs (RequestOutcome contents None false (judging_seen judging)) taken old new answer
    check_reported format entry answer e h =
        of_subject (subject.Instance format entry) answer e
        (judged_reported (λ ds. Outcome ds entry.now format) answer
        (reports-map output_report taken old new (FinishedOutcome schemas entry.now format bytes)
        (Outcome documents entry.now format bytes) answer
        (λ outcome. outcome_over standard_limits documents entry.now format bytes outcome schemas finished.0 finished.1)
        h))

    -- of a suite that is within the limit
    suite_over : length bytes ≤ input_limit → (answer : Result Counts Fault)
        → Reports lines_report (ReadLines schemas (suite_reading bytes)) taken old new answer
        → Reports lines_report (SuiteOutcome documents bytes) taken old new answer
    suite_over few answer h =
        let read = ReadLines (bundle_of documents) (suite_reading bytes) in
        reports-map lines_report taken old new (ReadLines schemas (suite_reading bytes)) (SuiteOutcome documents bytes)
        answer
        (λ outcome lines. after-clear (documents_causes documents) (OfInput bytes read) finished.1 outcome
        (input-within bytes read few outcome
        (subst (λ ds. ReadLines ds (suite_reading bytes) outcome) finished.0 lines))) h

    pub suite_reported : length bytes ≤ input_limit → (counts : Counts) → judging.subject ≡ subject.Suite
        → Reports lines_report (ReadLines schemas (suite_reading bytes)) taken old new (Ok counts)
        → Performs (RequestOutcome contents None false (judging_seen judging)) taken old new (Ok (all_passed counts))
    suite_reported few counts e reported =
        let (lines, h, passed, sent) = suite_over few (Ok counts) reported in
        of_subject subject.Suite (Ok (all_passed counts)) e
        (judged_reported SuiteReported (Ok (all_passed counts))
        (suite_output (counts_of lines) (lines_text lines), (lines, h, refl), ap all_passed passed, sent))

    pub suite_fault : length bytes ≤ input_limit → (f : Fault) → judging.subject ≡ subject.Suite
        → Reports lines_report (ReadLines schemas (suite_reading bytes)) taken old new (Err f)
        → Performs (RequestOutcome contents None false (judging_seen judging)) taken old new (Err f)
    suite_fault few f e h =
        of_subject subject.Suite (Err f) e
        (judged_reported SuiteReported (Err f) (suite_output_fault f (suite_over few (Err f) h)))

-- ---- places

module _ {D : Type 0} (contents : ContentsByPath) (pairs : DocumentPairs) (taken : D → Option (List ℕ))
    (old new : Tracked D) where
  pub places_untaken : (e : Fault) → (¬ (e ≡ fault.Memory) → IsFirstFileFault contents (files_of pairs) e)
      → Performs (RequestOutcome contents None false (places pairs)) taken old new (Err e)
  places_untaken e h =
      performs-fault contents (files_of pairs) (λ reported. (documents : DocumentTexts)
      × AreContents contents pairs documents
      × PlacesOutcome documents reported) taken old new e h

  module _ (documents : DocumentTexts) (holds : AreContents contents pairs documents) where
    pub places_refused : (f : Fault) → AreFinishedAs documents (Err f)
        → Performs (RequestOutcome contents None false (places pairs)) taken old new (Err f)
    places_refused fault.Memory h = tt
    places_refused fault.Read h = absurd h
    places_refused fault.Write h = absurd h
    places_refused fault.InputTooLarge h = inr (documents, holds, h)
    places_refused _ h = (documents, holds, h)

    -- they aren't, and this lists the places of their schemas
    module _ (schemas : bundle.Documents) (finished : AreFinishedAs documents (Ok schemas)) (text : List ℕ)
        (lists : text ≡ lines_of (sites schemas)) where
      lists_all : text ≡ places_text documents
      lists_all = lists ∙ ap (λ ds. lines_of (sites ds)) finished.0

      pub places_reported : Sends taken old new text
          → Performs (RequestOutcome contents None false (places pairs)) taken old new (Ok true)
      places_reported sent = (
        record { valid = true; text = places_text documents },
        (documents, holds, (finished.1, refl)),
        refl,
        subst (Sends taken old new) lists_all sent,
      )

      pub places_begun : (f : Fault) → f ≡ fault.Write → SendsBeginning taken old new text
          → Performs (RequestOutcome contents None false (places pairs)) taken old new (Err f)
      places_begun f write begun =
          subst (λ f. Performs (RequestOutcome contents None false (places pairs)) taken old new (Err f)) (sym write) (
            record { valid = true; text = places_text documents },
            (documents, holds, (finished.1, refl)),
            subst (SendsBeginning taken old new) lists_all begun,
          )

-- ---- a pair

pub pair_reported : {D : Type 0} (contents : ContentsByPath) (left : Option (List ℕ)) (failed : Bool)
    (taken : D → Option (List ℕ))
    (old new : Tracked D) (answer : Result Bool Fault)
    → Answers output_report PairOutcome [] left taken old new answer
    → (answer ≢ Err fault.Memory → IsErrOf answer fault.Read → failed ≡ true)
    → Performs (RequestOutcome contents left failed pair) taken old new answer
pair_reported contents left failed taken old new (Ok valid) (read, is, (output, h, same, sent)) fails =
    (output, (read, is, h), same, sent)
pair_reported contents left failed taken old new (Err fault.Memory) h fails = tt
pair_reported contents left failed taken old new (Err fault.Read) h fails = fails (λ e. cc) refl
pair_reported contents left failed taken old new (Err fault.Write) (read, is, (output, h, begun)) fails =
    (output, (read, is, h), begun)
pair_reported contents left failed taken old new (Err _) (read, is, h) fails = (read, is, h)

-- words that aren't read have a status above 2 only where memory runs out
pub misuse_reported : (m : Misuse) (status : ℕ) → status ≡ misuse_status m → 2 < status → status ≡ 4
misuse_reported misuse.Memory status e above = e
misuse_reported misuse.OtherForm status e above = absurd (omega (arith, e, above))
misuse_reported misuse.OddPairs status e above = absurd (omega (arith, e, above))

-- such words end so
pub misuse_ends : {A E : Type 0} (asked : Result A E) (m : Misuse) (status : ℕ) (Reported : Type 0)
    → status ≡ misuse_status m → (status ≡ 4 → Reported)
    → OnErr asked ((status ≡ 2) ⊎ ((status ≡ 4) × Reported))
misuse_ends (Ok a) m status Reported e reported = tt
misuse_ends (Err f) misuse.Memory status Reported e reported = inr (e, reported e)
misuse_ends (Err f) misuse.OtherForm status Reported e reported = inl e
misuse_ends (Err f) misuse.OddPairs status Reported e reported = inl e
