-- The list of the places of documents: their absolute locations (JSON Schema Core, section 12.3.2), in scan order.
use Rattle.std.specs.Prelude.{◌≡◌, ℕ, List, [], ◌∷◌, ◌++◌, length, flat_map, Result, Ok, Err, ⊤}
use Rattle.js_bundle.specs.Location.{absolute_location}
use Rattle.js_bundle.specs.Resource.{Site, sites}
use Rattle.js_output.specs.Cause.{MayGoOn, IsFirstFault}
use Rattle.js_output.specs.Documents.{DocumentTexts, documents_causes, bundle_of}
use Rattle.js_output.specs.declared.fault.Fault.{Fault}
use Rattle.js_output.specs.declared.fault.Fault.TheVariants as fault

-- a line each
abbrev pub place_line : Site → List ℕ
place_line place = absolute_location place [] ++ 10 ∷ []

abbrev pub lines_of : List Site → List ℕ
lines_of places = flat_map place_line places

abbrev pub places_of : DocumentTexts → List Site
places_of documents = sites (bundle_of documents)

abbrev pub places_text : DocumentTexts → List ℕ
places_text documents = lines_of (places_of documents)

-- what is returned: their number, if nothing is refused. `Write` only if nothing comes before it
abbrev pub ReportsPlaces : DocumentTexts → Result ℕ Fault → Type 0
ReportsPlaces documents (Ok n) = MayGoOn (documents_causes documents) × (n ≡ length (places_of documents))
ReportsPlaces documents (Err fault.Memory) = ⊤
ReportsPlaces documents (Err fault.Read) = ⊥
ReportsPlaces documents (Err fault.Write) = MayGoOn (documents_causes documents)
ReportsPlaces documents (Err f) = IsFirstFault (documents_causes documents) f
