-- What is asked of a document that is passed in with its URI, in order (JSON Schema Core, section 9.1.1).
use Rattle.std.specs.Prelude.{◌≡◌, ℕ, ◌<◌, ◌≤◌, List, [], ◌∷◌, ◌++◌, length, None, Ok, Err}
use Rattle.url.specs.Parts.{Parts}
use Rattle.url.specs.Parser.{Parsed, parse_url}
use Rattle.js_doc.specs.Pointer.{Tokens}
use Rattle.js_doc.specs.Value.{Value}
use Rattle.js_doc.specs.Reading.{IsReadAs, IsNotJson}
use Rattle.js_bundle.specs.declared.refusal.Refusal.{Refusal}
use Rattle.js_bundle.specs.declared.refusal.RefusalKind.{RefusalKind}
use Rattle.js_bundle.specs.declared.refusal.RefusalKind.TheVariants.{Memory, NotJson, NotWhole, BadUri}
use Rattle.js_bundle.specs.declared.refusal.RefusalKind.TheVariants.{TooManyDocuments, UriTooLong}
use Rattle.js_doc.specs.declared.reading.ReadFault.{ReadFault}
use Rattle.js_doc.specs.declared.reading.ReadFault.TheVariants as read_fault
use Rattle.js_bundle.specs.declared.bundle.UriFault.{UriFault}
use Rattle.js_bundle.specs.declared.bundle.UriFault.TheVariants as fault
use Rattle.js_bundle.specs.Document.{Document, Documents}
use Rattle.js_bundle.specs.Keyword.{Text}
use Rattle.js_bundle.specs.Url.{longest_uri, without_fragment, raw_fragment}

abbrev pub most_documents : ℕ
most_documents = 1000

-- the text is an absolute URL without a fragment, or with an empty one, and this is it without
abbrev pub IsUriOf : Text → Parts → Type 0
IsUriOf t uri = (given : Parts) × (parse_url None t ≡ Ok given) × (raw_fragment given ≡ [])
    × (uri ≡ without_fragment given)

-- the text is no absolute URL, or one with a fragment
abbrev pub IsBad : Parsed Parts → Type 0
IsBad (Ok uri) = ¬ (raw_fragment uri ≡ [])
IsBad (Err fault) = Unit {0}

-- what is taken in beside `earlier` others: the document that these bytes are, under this URI
pub record IsTaken (earlier : ℕ) (uri : Text) (bytes : List ℕ) (document : Document) : Type 0 where
  pub room : earlier < most_documents
  pub short : length uri ≤ longest_uri
  pub under : IsUriOf uri document.uri
  pub read : IsReadAs bytes (Ok document.root)

-- it stands after the others
abbrev pub IsAdded : Documents → Text → List ℕ → Documents → Type 0
IsAdded old uri bytes new = (document : Document) × IsTaken (length old) uri bytes document
    × (new ≡ old ++ document ∷ [])

-- When a refusal of each kind comes beside the given number of documents, each kind after those above it. Memory may
-- run out at any time
abbrev pub IsKind : ℕ → Text → List ℕ → Tokens → RefusalKind → Type 0
IsKind earlier uri bytes place TooManyDocuments = (place ≡ []) × (most_documents ≤ earlier)
IsKind earlier uri bytes place UriTooLong = (place ≡ []) × (earlier < most_documents) × (longest_uri < length uri)
IsKind earlier uri bytes place BadUri = (place ≡ []) × (earlier < most_documents) × (length uri ≤ longest_uri)
    × IsBad (parse_url None uri)
IsKind earlier uri bytes place NotJson =
    (place ≡ []) × (earlier < most_documents) × (length uri ≤ longest_uri)
    × ((u : Parts) × IsUriOf uri u) × IsNotJson bytes
IsKind earlier uri bytes place NotWhole =
    (earlier < most_documents) × (length uri ≤ longest_uri) × ((u : Parts) × IsUriOf uri u) × IsReadAs bytes (Err place)
IsKind earlier uri bytes place Memory = place ≡ []
IsKind earlier uri bytes place _ = ⊥

-- a refusal carries the number that the document would have had
abbrev pub IsRefusedBy : ℕ → Text → List ℕ → Refusal → Type 0
IsRefusedBy earlier uri bytes r = (r.document ≡ earlier) × IsKind earlier uri bytes r.place r.kind

-- ---- a value that is passed in, with its URI

-- it is taken in beside `earlier` others, under this URI
pub record IsUnder (earlier : ℕ) (uri : Text) (under : Parts) : Type 0 where
  pub room : earlier < most_documents
  pub short : length uri ≤ longest_uri
  pub is : IsUriOf uri under

-- it stands after the others
abbrev pub IsAddedAs : Documents → Text → Value → Documents → Type 0
IsAddedAs old uri root new =
    (under : Parts) × IsUnder (length old) uri under × (new ≡ old ++ record { uri = under; root = root } ∷ [])

-- when a refusal of each kind comes, each kind after those above it
abbrev pub IsUriKind : ℕ → Text → Tokens → RefusalKind → Type 0
IsUriKind earlier uri place TooManyDocuments = (place ≡ []) × (most_documents ≤ earlier)
IsUriKind earlier uri place UriTooLong = (place ≡ []) × (earlier < most_documents) × (longest_uri < length uri)
IsUriKind earlier uri place BadUri = (place ≡ []) × (earlier < most_documents) × (length uri ≤ longest_uri)
    × IsBad (parse_url None uri)
IsUriKind earlier uri place Memory = place ≡ []
IsUriKind earlier uri place _ = ⊥

abbrev pub IsUriRefusedBy : ℕ → Text → Refusal → Type 0
IsUriRefusedBy earlier uri r = (r.document ≡ earlier) × IsUriKind earlier uri r.place r.kind

-- ---- words for the parts

-- when a text isn't a document's URI
abbrev pub IsUriFault : Parsed Parts → UriFault → Type 0
IsUriFault given fault.Memory = Unit {0}
IsUriFault given fault.Bad = IsBad given

-- the refusal of a text that isn't read
abbrev pub refusal_of_read : ℕ → ReadFault → Refusal
refusal_of_read document read_fault.Memory = record { document = document; place = []; kind = Memory }
refusal_of_read document read_fault.NotJson = record { document = document; place = []; kind = NotJson }
refusal_of_read document (read_fault.NotWhole place) = record { document = document; place = place; kind = NotWhole }
