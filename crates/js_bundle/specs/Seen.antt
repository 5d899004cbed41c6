-- What the code's documents are seen as.
use Rattle.std.specs.List.{AllByRecursion}
use Rattle.js_doc.specs.Members.{NamesAscend}
use Rattle.js_doc.specs.Seen.{value_of}
use Rattle.js_doc.specs.Short.{IsShort}
use Rattle.js_bundle.specs.declared.document.Document as rust
use Rattle.js_bundle.specs.Document.{Document, Documents}

abbrev pub document_of : rust.Document → Document
document_of d = record { uri = d.uri; root = value_of d.root }

-- the names of each object in a document ascend
abbrev pub AreOrdered : Documents → Type 0
AreOrdered documents = AllByRecursion (λ d. NamesAscend d.root) documents

-- no list in a document has 2^64 items
abbrev pub AreShort : Documents → Type 0
AreShort documents = AllByRecursion (λ d. IsShort d.root) documents

-- the documents are as they are read
pub record AreRead (documents : Documents) : Type 0 where
  pub ordered : AreOrdered documents
  pub short : AreShort documents
