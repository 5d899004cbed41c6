-- A schema document: the URI under which it was passed in (JSON Schema Core, section 9.1.1), and its value.
use Rattle.std.specs.Prelude.{List, refl}
use Rattle.std.specs.Coded.{Coded, code_by, coded_list, coded×}
use Rattle.url.specs.Parts.{Parts, parts_code}
use Rattle.js_doc.specs.Value.{Value}
use Rattle.js_doc.specs.Coding.{value_code}

pub record Document : Type 0 where
  pub uri : Parts
  pub root : Value

abbrev pub Documents : Type 0
Documents = List Document

abbrev pub document_code : Coded Document
document_code = code_by (Parts
    × Value) (coded× parts_code value_code) (λ d. (d.uri, d.root)) (λ p. record { uri = p.0; root = p.1 }) (λ _. refl)

abbrev pub documents_code : Coded Documents
documents_code = coded_list document_code
