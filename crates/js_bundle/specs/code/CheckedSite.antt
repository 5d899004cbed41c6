-- A place without its schema, as finished schemas keep it.
use Rattle.std.specs.Prelude.{ℕ, List, [], Bool, ◌&&◌, ◌∷◌, not, bytes_eq, Option, Some, None, if◌then◌else◌}
use Rattle.js_doc.specs.Pointer.{Tokens}
use Rattle.js_doc.specs.Value.{Value, null}
use Rattle.js_bundle.specs.declared.check.checked_site.CheckedSite as rust
use Rattle.js_bundle.specs.declared.scan.base_scope.BaseScope.{BaseScope}
use Rattle.js_bundle.specs.code.Index.{Standing}
use Rattle.js_bundle.specs.Keyword.{Text}
use Rattle.js_bundle.specs.Location.{location}
use Rattle.js_bundle.specs.Names.{same_tokens}
use Rattle.js_bundle.specs.Resource.{Site}
use Rattle.js_bundle.specs.Url.{printed}

pub record CheckedSite : Type 0 where
  pub document : ℕ
  pub pointer : Tokens
  pub above : BaseScope
  pub own : BaseScope
  pub identifies : Bool

abbrev pub checked_site : Site → CheckedSite
checked_site s =
    record { document = s.document; pointer = s.pointer; above = s.above; own = s.own; identifies = s.identifies }

abbrev pub checked_site_of : rust.CheckedSite → CheckedSite
checked_site_of s =
    record {
      document = s.document;
      pointer = s.pointer.value;
      above = s.above.value;
      own = s.own.value;
      identifies = s.identifies;
    }

-- the place, where that schema stands
abbrev pub site_with : Value → CheckedSite → Site
site_with schema place = record {
  document = place.document;
  pointer = place.pointer;
  above = place.above;
  own = place.own;
  identifies = place.identifies;
  schema = schema;
}

-- its absolute location, whatever stands there
abbrev pub location_of : CheckedSite → Text
location_of place = location (site_with null place)

-- the document's URI, at its root
abbrev pub document_uri : CheckedSite → Option Text
document_uri place = if same_tokens place.pointer [] then Some (printed place.above.base) else None

-- what the `$id` makes, unless it is the document's URI at its root
abbrev pub base_made : CheckedSite → Option Text
base_made place =
    if place.identifies && not (same_tokens place.pointer []
    && bytes_eq (printed place.above.base) (printed place.own.base)) then Some (printed place.own.base) else None

-- with the place's number
abbrev pub resource_listed : ℕ → Option Text → List (Text × ℕ)
resource_listed n None = []
resource_listed n (Some uri) = (uri, n) ∷ []

-- where it stands
abbrev pub checked_standing : CheckedSite → Standing
checked_standing checked_site = record { document = checked_site.document; pointer = checked_site.pointer }
