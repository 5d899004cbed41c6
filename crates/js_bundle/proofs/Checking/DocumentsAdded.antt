-- What a bundle is once a document was taken in, or refused.
use Rattle.std.proofs.Common.{◌≡◌, ℕ, ◌<◌, ◌≤◌, List, [], ◌∷◌, ◌++◌, map, length, refl, sym, ap, ◌∙◌, subst}
use Rattle.std.proofs.lemmas.List.{map-append, length-map}
use Rattle.url.specs.Parts.{Parts}
use Rattle.js_doc.specs.Reading.{IsReadFault}
use Rattle.js_doc.specs.declared.reading.ReadFault.{ReadFault}
use Rattle.js_doc.specs.declared.reading.ReadFault.TheVariants as read_fault
use Rattle.js_bundle.specs.declared.refusal.Refusal.{Refusal}
use Rattle.js_bundle.specs.declared.refusal.RefusalKind.{RefusalKind}
use Rattle.js_bundle.specs.declared.refusal.RefusalKind.TheVariants as kind
use Rattle.js_bundle.specs.declared.document.Document as rust
use Rattle.js_doc.specs.Pointer.{Tokens}
use Rattle.js_doc.specs.Seen.{value_of}
use Rattle.js_doc.specs.declared.doc.Doc.{Doc}
use Rattle.js_bundle.specs.Adding.{most_documents, IsUriOf, IsTaken, IsAdded, IsUnder, IsAddedAs, IsKind}
use Rattle.js_bundle.specs.Adding.{IsRefusedBy, IsUriKind, IsUriRefusedBy, refusal_of_read}
use Rattle.js_bundle.specs.Document.{Documents}
use Rattle.js_bundle.specs.Keyword.{Text}
use Rattle.js_bundle.specs.Url.{longest_uri}
use Rattle.js_bundle.specs.Seen.{document_of}

unread_at : (earlier : ℕ) (uri : Text) (bytes : List ℕ) (u : Parts) (fault : ReadFault) → earlier < most_documents
    → length uri ≤ longest_uri → IsUriOf uri u → IsReadFault bytes fault
    → IsRefusedBy earlier uri bytes (refusal_of_read earlier fault)
unread_at earlier uri bytes u read_fault.Memory room short under f = (refl, refl)
unread_at earlier uri bytes u read_fault.NotJson room short under f = (refl, (refl, room, short, (u, under), f))
unread_at earlier uri bytes u (read_fault.NotWhole place) room short under f = (refl, (room, short, (u, under), f))

-- a text that isn't read, under a URI
pub unread_refused : (earlier : ℕ) (uri : Text) (bytes : List ℕ) (u : Parts) (fault : ReadFault) (r : Refusal)
    → r ≡ refusal_of_read earlier fault
    → earlier < most_documents → length uri ≤ longest_uri → IsUriOf uri u → IsReadFault bytes fault
    → IsRefusedBy earlier uri bytes r
unread_refused earlier uri bytes u fault r is room short under f =
    subst (λ x. IsRefusedBy earlier uri bytes x) (sym is) (unread_at earlier uri bytes u fault room short under f)

pub added : (old : List rust.Document) (uri : Text) (bytes : List ℕ) (d : rust.Document) (docs : Documents)
    (new : List rust.Document) → map document_of old ≡ docs → new ≡ old ++ d ∷ []
    → IsTaken (length old) uri bytes (document_of d) → IsAdded docs uri bytes (map document_of new)
added old uri bytes d docs new seen push taken = (
  document_of d,
  subst (λ n. IsTaken n uri bytes (document_of d)) (sym (length-map old document_of) ∙ ap length seen) taken,
  ap (map document_of) push ∙ map-append document_of old (d ∷ []) ∙ ap (λ ds. ds ++ document_of d ∷ []) seen,
)

-- ---- by the URI alone

kind_of_uri : (earlier : ℕ) (uri : Text) (bytes : List ℕ) (place : Tokens) (k : RefusalKind)
    → IsUriKind earlier uri place k
    → IsKind earlier uri bytes place k
kind_of_uri earlier uri bytes place kind.Memory h = h
kind_of_uri earlier uri bytes place kind.BadUri h = h
kind_of_uri earlier uri bytes place kind.TooManyDocuments h = h
kind_of_uri earlier uri bytes place kind.UriTooLong h = h
kind_of_uri earlier uri bytes place _ h = absurd h

pub refused_by_uri : (earlier : ℕ) (uri : Text) (bytes : List ℕ) (r : Refusal) → IsUriRefusedBy earlier uri r
    → IsRefusedBy earlier uri bytes r
refused_by_uri earlier uri bytes r h = (h.0, kind_of_uri earlier uri bytes r.place r.kind h.1)

pub added_as : (old : List rust.Document) (uri : Text) (u : Parts) (root : Doc) (docs : Documents)
    (new : List rust.Document) → map document_of old ≡ docs
    → new ≡ old ++ record { uri = u; root = root } ∷ [] → IsUnder (length old) uri u
    → IsAddedAs docs uri (value_of root) (map document_of new)
added_as old uri u root docs new seen push under = (
  u,
  subst (λ n. IsUnder n uri u) (sym (length-map old document_of) ∙ ap length seen) under,
  ap (map document_of) push ∙ map-append document_of old (record { uri = u; root = root } ∷ [])
      ∙ ap (λ ds. ds ++ record { uri = u; root = value_of root } ∷ []) seen,
)
