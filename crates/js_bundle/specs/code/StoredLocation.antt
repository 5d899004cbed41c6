-- What is kept of a place's absolute location: all of it, or only `#` and the fragment, where the resource's URI is too
-- long to be repeated with each of its places.
use Rattle.std.specs.Prelude.{[], ◌++◌, Bool, codes, length, nat_lt, if◌then◌else◌}
use Rattle.js_doc.specs.Fragment.{fragment_text}
use Rattle.js_bundle.specs.declared.index.stored_location.StoredLocation.{StoredLocation}
use Rattle.js_bundle.specs.Keyword.{Text}
use Rattle.js_bundle.specs.Location.{canonical, way}
use Rattle.js_bundle.specs.Resource.{Site}

-- too long to be repeated
unfoldable pub is_long : Text → Bool
is_long uri = nat_lt 256 (length uri)

-- what each place repeats of its resource's URI
abbrev pub repeated : Text → Text
repeated uri = if is_long uri then [] else uri

abbrev pub stored_location : Site → StoredLocation
stored_location place = record {
  text = repeated (canonical place) ++ (codes "#" ++ fragment_text (way place));
  is_fragment = is_long (canonical place);
}
