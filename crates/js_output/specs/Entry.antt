-- The schema that an instance is judged by (JSON Schema Core, section 9.2.1): what is refused of its URI, in order.
use Rattle.std.specs.Prelude.{◌≡◌, ℕ, List, ◌++◌, length, Option, None, is_none, Ok}
use Rattle.std.specs.Prelude.{Err, Bool, true, false, not, nat_lt}
use Rattle.url.specs.Parts.{Parts}
use Rattle.url.specs.Parser.{Parsed, parse_url}
use Rattle.js_bundle.specs.declared.refusal.EntryFault.{EntryFault}
use Rattle.js_bundle.specs.declared.refusal.EntryFault.TheVariants as entry_fault
use Rattle.js_bundle.specs.Document.{Documents}
use Rattle.js_bundle.specs.Names.{is_read}
use Rattle.js_bundle.specs.Resource.{Site}
use Rattle.js_bundle.specs.Schemas.{entry, is_place, place_at}
use Rattle.js_bundle.specs.Url.{longest_uri, decoded_fragment}
use Rattle.js_output.specs.Cause.{Causes, cause}
use Rattle.js_output.specs.declared.entry.Entry as rust
use Rattle.js_output.specs.declared.fault.Fault.{Fault}
use Rattle.js_output.specs.declared.fault.Fault.TheVariants as fault

-- the place that the URI names
abbrev pub entry_place : Documents → List ℕ → Option Site
entry_place documents uri = entry documents (parse_url None uri)

-- it is an absolute URL, and its fragment is read
abbrev pub is_uri_read : Parsed Parts → Bool
is_uri_read (Ok uri) = is_read (decoded_fragment uri)
is_uri_read (Err e) = false

abbrev pub entry_causes : Documents → List ℕ → Causes
entry_causes documents uri =
    cause (nat_lt longest_uri (length uri)) (fault.Entry entry_fault.UriTooLong)
    ++ (cause (not (is_uri_read (parse_url None uri))) (fault.Entry entry_fault.BadUri)
    ++ cause (is_none (entry_place documents uri)) (fault.Entry entry_fault.Unresolved))

-- ---- words for the parts

-- lack of memory is one fault, wherever it comes
abbrev pub entry_fault_of : EntryFault → Fault
entry_fault_of entry_fault.Memory = fault.Memory
entry_fault_of e = fault.Entry e

-- what is kept is these documents, and the place of them that the URI names
pub record IsEntry (documents : Documents) (uri : List ℕ) (e : rust.Entry) : Type 0 where
  pub of : e.schemas ≡ documents
  pub there : is_place e.schemas e.place ≡ true
  pub named : place_at e.schemas e.place ≡ entry_place documents uri
