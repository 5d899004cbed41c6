-- Schema documents that are passed in, each with its URI (JSON Schema Core, section 9.1.1): how they are read, and
-- what is refused of them, in order.
use Rattle.std.specs.Prelude.{ℕ, ◌+◌, List, [], ◌∷◌, ◌++◌, length, Option, Some, None, is_none, option_and_then}
use Rattle.std.specs.Prelude.{option_to_list, Result, Ok, Err, not, true, nat_lt, nat_le, map, flat_map, if◌then◌else◌}
use Rattle.std.proofs.Common.{Bor}
use Rattle.url.specs.Parts.{Parts}
use Rattle.url.specs.Parser.{parse_url}
use Rattle.js_doc.specs.Value.{Value}
use Rattle.js_doc.specs.declared.reading.ReadFault.{ReadFault}
use Rattle.js_doc.specs.declared.reading.ReadFault.TheVariants as read
use Rattle.js_bundle.specs.declared.refusal.Refusal.{Refusal}
use Rattle.js_bundle.specs.declared.refusal.RefusalKind.{RefusalKind}
use Rattle.js_bundle.specs.declared.refusal.RefusalKind.TheVariants as kind
use Rattle.js_bundle.specs.Adding.{most_documents, refusal_of_read}
use Rattle.js_bundle.specs.Candidate.{Candidate}
use Rattle.js_bundle.specs.Document.{Document}
use Rattle.js_bundle.specs.Document as bundle
use Rattle.js_bundle.specs.Refusals.{candidates}
use Rattle.js_bundle.specs.Url.{is_empty, longest_uri, without_fragment, raw_fragment, parsed}
use Rattle.js_output.specs.Cause.{Cause, Causes, cause}
use Rattle.js_output.specs.Reading.{reading}
use Rattle.js_output.specs.declared.fault.Fault.{Fault}
use Rattle.js_output.specs.declared.fault.Fault.TheVariants as fault

-- documents by their URIs
abbrev pub DocumentTexts : Type 0
DocumentTexts = List (List ℕ × List ℕ)

-- of documents that are lent
abbrev pub documents_of : List (Bor (List ℕ) × Bor (List ℕ)) → DocumentTexts
documents_of documents = map (λ d. (d.0.now, d.1.now)) documents

-- ---- how they are read

-- the URI without its fragment, which is to be empty
abbrev pub unfragmented : Parts → Option Parts
unfragmented uri = if is_empty (raw_fragment uri) then Some (without_fragment uri) else None

-- the URI that a text is, as an absolute one
abbrev pub absolute_uri : List ℕ → Option Parts
absolute_uri t = option_and_then unfragmented (parsed (parse_url None t))

abbrev pub document_under : Option Parts → Result Value ReadFault → Option Document
document_under (Some uri) (Ok root) = Some (record { uri = uri; root = root })
document_under _ _ = None

-- the document, if its URI and its text can be read
abbrev pub taken : List ℕ × List ℕ → Option Document
taken d = document_under (absolute_uri d.0) (reading d.1)

abbrev pub bundle_of : DocumentTexts → bundle.Documents
bundle_of documents = flat_map (λ d. option_to_list (taken d)) documents

-- ---- what is refused of one, after a number of others

abbrev pub refused : ℕ → RefusalKind → Fault
refused earlier kind = fault.Refused (record { document = earlier; place = []; kind = kind })

abbrev pub text_causes : ℕ → Result Value ReadFault → Causes
text_causes earlier (Ok v) = []
text_causes earlier (Err e) = cause true (fault.Refused (refusal_of_read earlier e))

-- the fault of a text that isn't read
abbrev pub unread_document : ℕ → ReadFault → Fault
unread_document earlier read.Memory = fault.Memory
unread_document earlier e = fault.Refused (refusal_of_read earlier e)

-- by its URI
abbrev pub uri_causes : ℕ → List ℕ → Causes
uri_causes earlier uri =
    cause (nat_le most_documents earlier) (refused earlier kind.TooManyDocuments)
    ++ (cause (nat_lt longest_uri (length uri)) (refused earlier kind.UriTooLong)
    ++ cause (is_none (absolute_uri uri)) (refused earlier kind.BadUri))

abbrev pub document_causes : ℕ → List ℕ × List ℕ → Causes
document_causes earlier d = uri_causes earlier d.0 ++ text_causes earlier (reading d.1)

-- ---- what is refused of all

-- one after another
abbrev pub adding_causes : ℕ → DocumentTexts → Causes
adding_causes earlier [] = []
adding_causes earlier (d ∷ ds) = document_causes earlier d ++ adding_causes (earlier + 1) ds

-- of them whole: the refusals of a list of documents, of which a given one may be passed over
abbrev pub cause_of : Candidate → Cause
cause_of c = record { fault = fault.Refused c.refusal; given = not c.decided }

unfoldable pub bundle_causes : bundle.Documents → Causes
bundle_causes documents = map cause_of (candidates documents)

abbrev pub documents_causes : DocumentTexts → Causes
documents_causes documents = adding_causes 0 documents ++ bundle_causes (bundle_of documents)

-- ---- words for the parts

-- lack of memory is one fault, wherever it comes
abbrev pub fault_by : RefusalKind → Refusal → Fault
fault_by kind.Memory r = fault.Memory
fault_by _ r = fault.Refused r
