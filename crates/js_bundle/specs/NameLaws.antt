-- In documents that are accepted a URI names one resource at most, and one place at most (JSON Schema Core, section
-- 8.2).
use Rattle.std.specs.Prelude.{◌≡◌, ℕ, true, Some}
use Rattle.url.specs.Parts.{Parts}
use Rattle.js_bundle.specs.Candidate.{IsClear}
use Rattle.js_bundle.specs.Document.{Documents}
use Rattle.js_bundle.specs.Keyword.{Text}
use Rattle.js_bundle.specs.Names.{is_known_as, names}
use Rattle.js_bundle.specs.Refusals.{candidates}
use Rattle.js_bundle.specs.Resource.{Site, sites}
use Rattle.js_bundle.specs.PlaceNumber.{place_at}
use Rattle.js_bundle.specs.Seen.{AreRead}

-- two places of which the test holds are one
abbrev pub AreOne : Documents → (Site → Type 0) → Type 0
AreOne documents Is =
    (n m : ℕ) (s t : Site) → place_at documents n ≡ Some s → place_at documents m ≡ Some t → Is s → Is t → n ≡ m

-- one root of a resource has a URI
abbrev pub NamesOneResource : Type 0
NamesOneResource =
    (documents : Documents) → IsClear (candidates documents) → (uri : Text)
    → AreOne documents (λ place. is_known_as uri place ≡ true)

-- one place has a URI, whether by a pointer or by an anchor
abbrev pub NamesOnePlace : Type 0
NamesOnePlace =
    (documents : Documents) → AreRead documents → IsClear (candidates documents) → (uri : Parts)
    → AreOne documents (λ place. names (sites documents) uri place ≡ true)
