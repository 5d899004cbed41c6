-- A document that is upgraded together with others.
use Rattle.std.specs.Prelude.{List, Bool, Option, is_some}
use Rattle.url.specs.Parts.{Parts}
use Rattle.js_doc.specs.Value.{Value}
use Rattle.js_upgrade.specs.Upgrade.{document_dialect}
use Rattle.js_upgrade.specs.declared.dialect.Dialect.{Dialect}

-- a document, its URI, and the dialect that is assumed where it names none
pub record SourceDocument : Type 0 where
  pub uri : Parts
  pub assumed : Dialect
  pub root : Value

abbrev pub Sources : Type 0
Sources = List SourceDocument

-- none where it isn't known
abbrev pub source_dialect : SourceDocument → Option Dialect
source_dialect s = document_dialect s.assumed s.root

abbrev pub is_known : SourceDocument → Bool
is_known s = is_some (source_dialect s)

-- the document with another root
abbrev pub source_with_root : SourceDocument → Value → SourceDocument
source_with_root s v = record { uri = s.uri; assumed = s.assumed; root = v }
