-- Documents whose files were taken.
use Rattle.std.specs.Prelude.{◌≡◌, length, Option, Some, None, Result, Ok, Err}
use Rattle.js_bundle.specs.Document as bundle
use Rattle.js_output.specs.Cause.{MayGoOn, FailsBy}
use Rattle.js_output.specs.Documents.{DocumentTexts, adding_causes, bundle_of, documents_causes}
use Rattle.js_output.specs.declared.fault.Fault.{Fault}
use Rattle.js_command.specs.Answer.{AreContents}
use Rattle.js_command.specs.Files.{ContentsByPath}
use Rattle.js_command.specs.Words.{DocumentPairs}
use Rattle.js_command.specs.declared.documents.Taken.{Taken}

-- what is kept of documents with these texts: a bundle of them, if none is refused; else the first refusal, or lack of
-- memory
abbrev pub AreKept : DocumentTexts → bundle.Documents → Option Fault → Type 0
AreKept texts held None = (length held ≡ length texts) × (held ≡ bundle_of texts) × MayGoOn (adding_causes 0 texts)
AreKept texts held (Some f) = FailsBy (adding_causes 0 texts) f

-- the files hold texts, of which this is kept
abbrev pub AreTaken : ContentsByPath → DocumentPairs → Taken → Type 0
AreTaken contents pairs taken = (texts : DocumentTexts) × AreContents contents pairs texts
    × AreKept texts taken.bundle taken.refused

-- their schemas, if nothing is refused; else the first refusal, or lack of memory
abbrev pub AreFinishedAs : DocumentTexts → Result bundle.Documents Fault → Type 0
AreFinishedAs texts (Ok schemas) = (schemas ≡ bundle_of texts) × MayGoOn (documents_causes texts)
AreFinishedAs texts (Err f) = FailsBy (documents_causes texts) f
