-- What the code's documents, resources and faults are seen as.
use Rattle.std.specs.Prelude.{[], Option, option_map, reverse, string_bytes, unwrap_or}
use denote.Ref.{Bor}
use Rattle.js_doc.specs.Seen.{value_of}
use Rattle.js_doc.specs.Value.{Named}
use Rattle.js_upgrade.specs.Documents.{SourceDocument}
use Rattle.js_upgrade.specs.Fault.{FoundFault}
use Rattle.js_upgrade.specs.Resource.{Resource}
use Rattle.js_upgrade.specs.declared.documents.SourceDocument as rust
use Rattle.js_upgrade.specs.declared.finding.FoundFault as rust_found
use Rattle.js_upgrade.specs.declared.resource.Resource as rust_resource

-- none where there are none
abbrev pub copies_seen : Option (Bor Named) → Named
copies_seen found = unwrap_or (option_map (λ ms. ms.now) found) []

abbrev pub resource_seen : rust_resource.Resource → Resource
resource_seen r =
    record {
      uri = string_bytes r.uri;
      dialect = r.dialect;
      root = value_of r.root.now;
      copies = copies_seen r.copies;
    }

abbrev pub source_of : rust.SourceDocument → SourceDocument
source_of s = record { uri = s.uri; assumed = s.assumed; root = value_of s.root }

abbrev pub found_of : rust_found.FoundFault → FoundFault
found_of f = record { place = reverse f.back; kind = f.kind }
