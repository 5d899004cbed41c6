-- What comes of documents that are to be upgraded, by what their files hold.
use Rattle.std.specs.Prelude.{◌≡◌, ◌⊎◌, ℕ, ◌+◌, List, [], ◌∷◌, ◌++◌, length, nat_lt, Option, Some, None}
use Rattle.std.specs.Prelude.{Result, Ok, Err, Bool, ⊤, if◌then◌else◌}
use Rattle.std.specs.Io.KnownBytes.{Keeps}
use Rattle.url.specs.Parts.{Parts}
use Rattle.js_doc.specs.Value.{Value, Values}
use Rattle.js_doc.specs.declared.reading.ReadFault.{ReadFault}
use Rattle.js_bundle.specs.Adding.{refusal_of_read}
use Rattle.js_bundle.specs.declared.refusal.Refusal.{Refusal}
use Rattle.js_bundle.specs.declared.refusal.RefusalKind.{RefusalKind}
use Rattle.js_bundle.specs.declared.refusal.RefusalKind.TheVariants as kind
use Rattle.js_bundle.specs.Url.{longest_uri}
use Rattle.js_output.specs.Documents.{DocumentTexts, absolute_uri}
use Rattle.js_output.specs.Line.{failed_memory}
use Rattle.js_output.specs.Reading.{reading}
use Rattle.js_output.specs.declared.fault.Fault.{Fault}
use Rattle.js_output.specs.declared.fault.Fault.TheVariants as fault
use Rattle.js_command.specs.Answer.{AreContents}
use Rattle.js_command.specs.Files.{ContentsByPath, IsFileFault, MayFit}
use Rattle.js_command.specs.Status.{fault_status}
use Rattle.js_command.specs.Words.{files_of}
use Rattle.js_upgrade.specs.Documents.{SourceDocument, Sources}
use Rattle.js_upgrade.specs.declared.dialect.Dialect.{Dialect}
use Rattle.js_output.specs.Device.{Tracked}
use Rattle.js_upgrade_cli.specs.Numbers.{text_read}
use Rattle.js_upgrade_cli.specs.Outputs.{Flushes, IsPartlyWritten, IsWritten, Written}
use Rattle.js_upgrade_cli.specs.Stop.{stop_line}
use Rattle.js_upgrade_cli.specs.Upgraded.{upgraded_or_refused}
use Rattle.js_upgrade_cli.specs.Words.{UpgradeRequest, and_then, upgrade_request_of}
use Rattle.js_upgrade_cli.specs.declared.numbers.Numbers.{Numbers}
use Rattle.js_upgrade_cli.specs.declared.stop.RequestStop.{RequestStop}

-- ---- documents, as their texts are read

-- a document with this number, refused as a whole
abbrev pub refused_whole : ℕ → RefusalKind → Refusal
refused_whole number k = record { document = number; place = []; kind = k }

abbrev pub uri_or : ℕ → Option Parts → Result Parts Refusal
uri_or number None = Err (refused_whole number kind.BadUri)
uri_or number (Some uri) = Ok uri

-- the absolute URI that a text is
abbrev pub uri_read : ℕ → List ℕ → Result Parts Refusal
uri_read number uri =
    if nat_lt longest_uri (length uri) then Err (refused_whole number kind.UriTooLong)
    else uri_or number (absolute_uri uri)

abbrev pub root_or : ℕ → Result Value ReadFault → Result Value Refusal
root_or number (Ok v) = Ok v
root_or number (Err f) = Err (refusal_of_read number f)

abbrev pub root_read : ℕ → List ℕ → Result Value Refusal
root_read number bytes = root_or number (reading bytes)

abbrev pub source_read : Numbers → Dialect → ℕ → List ℕ × List ℕ → Result SourceDocument Refusal
source_read numbers assumed number d =
    and_then (uri_read number d.0) (λ uri. and_then (root_read number (text_read numbers assumed d.1))
    (λ root. Ok (record { uri = uri; assumed = assumed; root = root })))

-- one after another, behind those that were read
abbrev pub sources_after : Numbers → Dialect → Sources → ℕ → DocumentTexts → Result Sources Refusal
sources_after numbers assumed before number [] = Ok before
sources_after numbers assumed before number (d ∷ ds) =
    and_then (source_read numbers assumed number d)
    (λ s. sources_after numbers assumed (before ++ s ∷ []) (number + 1) ds)

-- ---- the upgraded documents, or the first refusal

abbrev pub outcome : Numbers → Dialect → DocumentTexts → Result Values Refusal
outcome numbers assumed documents = and_then (sources_after numbers assumed [] 0 documents) upgraded_or_refused

-- what comes of what the files hold
abbrev pub UpgradeOutcome : ContentsByPath → UpgradeRequest → Result Values Refusal → Type 0
UpgradeOutcome contents request answer =
    (documents : DocumentTexts) × AreContents contents request.documents documents
    × (outcome request.numbers request.assumed documents ≡ answer)

-- the file with this number is the first that isn't taken, for this fault
abbrev pub IsUntaken : ContentsByPath → ℕ → List (List ℕ) → Option ℕ → Fault → Type 0
IsUntaken contents number [] document fault.Memory = ⊤
IsUntaken contents number [] document f = ⊥
IsUntaken contents number (path ∷ paths) document fault.Memory = ⊤
IsUntaken contents number (path ∷ paths) document f =
    ((document ≡ Some number) × IsFileFault (contents path) f)
    ⊎ (MayFit (contents path) × IsUntaken contents (number + 1) paths document f)

-- why they can't be upgraded, and which document it is about
abbrev pub IsUpgradeStop : ContentsByPath → UpgradeRequest → Option ℕ → Fault → Type 0
IsUpgradeStop contents request document fault.Memory = ⊤
IsUpgradeStop contents request document (fault.Refused r) =
    (document ≡ Some r.document) × UpgradeOutcome contents request (Err r)
IsUpgradeStop contents request document f = IsUntaken contents 0 (files_of request.documents) document f

-- ---- how it ends, by what the output and the folder held before and hold at the end, where that is known

-- all documents were upgraded, and written
abbrev pub IsDone : ContentsByPath → UpgradeRequest → Option (List ℕ) → Option (List ℕ) → Option Written
    → Option Written → Type 0
IsDone contents request old new before after =
    (values : Values) × UpgradeOutcome contents request (Ok values)
    × IsWritten request.into request.documents values old new before after

-- the same of what the words ask for
abbrev pub IsAllDone : List (List ℕ) → ContentsByPath → Option (List ℕ) → Option (List ℕ) → Option Written
    → Option Written → Type 0
IsAllDone words contents old new before after =
    (request : UpgradeRequest) × (upgrade_request_of words ≡ Ok request) × IsDone contents request old new before after

-- the output was flushed, where what the words ask for goes there
abbrev pub AllFlushes : {D : Type 0} → List (List ℕ) → Tracked D → Tracked D → Type 0
AllFlushes words old new =
    (request : UpgradeRequest) × (upgrade_request_of words ≡ Ok request) × Flushes request.into old new

-- they weren't upgraded, and nothing was written; or a prefix was, and the output has failed, or a file of the
-- folder. Memory may run out at any point.
abbrev pub IsRequestStopped : ContentsByPath → UpgradeRequest → Option (List ℕ) → Option (List ℕ) → Bool
    → Option Written → Option Written → Option ℕ → Fault → Type 0
IsRequestStopped contents request old new failed before after document fault.Memory = ⊤
IsRequestStopped contents request old new failed before after document fault.Write =
    (values : Values) × UpgradeOutcome contents request (Ok values)
    × IsPartlyWritten request.into request.documents values old new failed before after document
IsRequestStopped contents request old new failed before after document f =
    Keeps old new × (after ≡ before) × IsUpgradeStop contents request document f

-- the line that is reported with a status: the request stops so; or memory ran out before there was one
abbrev pub IsStopReason : List (List ℕ) → ContentsByPath → Option (List ℕ) → Option (List ℕ) → Bool → Option Written
    → Option Written → ℕ → List ℕ → Type 0
IsStopReason words contents old new failed before after status line =
    ((status ≡ 4) × (line ≡ failed_memory))
    ⊎ ((request : UpgradeRequest) × (upgrade_request_of words ≡ Ok request)
    × ((stop : RequestStop) × (status ≡ fault_status stop.fault) × (line ≡ stop_line request stop)
    × IsRequestStopped contents request old new failed before after stop.document stop.fault))
