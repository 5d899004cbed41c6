-- A place of documents with the schema there (of private functions).
use Rattle.std.specs.Prelude.{◌≡◌, ℕ, true}
use Rattle.js_doc.specs.Value.{Value}
use Rattle.js_bundle.specs.Document.{Documents}
use Rattle.js_bundle.specs.Schemas.{is_place}
use Rattle.js_eval.specs.Sited.{numbered_site}

-- the number is that of a place, and this is the schema there
abbrev pub IsSchemaAt : Documents → ℕ → Value → Type 0
IsSchemaAt documents n schema = (is_place documents n ≡ true) × (schema ≡ (numbered_site documents n).schema)
