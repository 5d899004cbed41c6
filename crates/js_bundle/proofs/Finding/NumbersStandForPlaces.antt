-- The number that is found stands for the place that is found.
use Rattle.std.proofs.Common.{◌≡◌, ℕ, List, length, Bool, true, false, is_none, Option, Some, None}
use Rattle.std.proofs.Common.{option_and_then, slice_get, find, refl, sym, ap, ◌∙◌, subst}
use Rattle.std.specs.List.{position_from}
use Rattle.std.proofs.lemmas.Bool.{lt-ltb}
use Rattle.std.proofs.lemmas.Option.{slice_get_within}
use Rattle.js_bundle.specs.Document.{Documents}
use Rattle.url.specs.Parts.{Parts}
use Rattle.js_bundle.specs.code.PlaceNumbers.{number_named}
use Rattle.js_bundle.specs.Names.{names, named}
use Rattle.js_bundle.specs.Resource.{Site, sites}
use Rattle.js_bundle.specs.PlaceNumber.{is_place}
use Rattle.js_bundle.specs.Schemas.{StandsFor, Finds}
use Rattle.js_bundle.proofs.Indexing.FoundByText.{found_at, none_alike}

stands_by : (documents : Documents) (n : ℕ) (found : Option Site) → slice_get (sites documents) n ≡ found
    → is_none found ≡ false → StandsFor documents n found
stands_by documents n None e h = absurd (cc)
stands_by documents n (Some place) e h = (place, refl, e)

pub stands_there : (documents : Documents) (n : ℕ) (found : Option Site) → StandsFor documents n found
    → is_place documents n ≡ true
stands_there documents n found h = lt-ltb n (length (sites documents)) (slice_get_within (sites documents) n h.0 h.2)

finds_by : (documents : Documents) (n : Option ℕ) (found : Option Site)
    → option_and_then (slice_get (sites documents)) n ≡ found → is_none n ≡ is_none found → Finds documents n found
finds_by documents None found e h = sym e
finds_by documents (Some n) found e h = stands_by documents n found e (sym h)

pub finds_place : (documents : Documents) (f : Site → Bool) (n : Option ℕ) → n ≡ position_from f 0 (sites documents)
    → Finds documents n (find f (sites documents))
finds_place documents f n e =
    subst (λ m. Finds documents m (find f (sites documents))) (sym e)
    (finds_by documents (position_from f 0 (sites documents)) (find f (sites documents)) (found_at f (sites documents))
    (none_alike f 0 (sites documents)))

-- ---- what a URI names

pub names_it : (documents : Documents) (listed : List Site) (uri : Parts) (n : ℕ) → listed ≡ sites documents
    → Some n ≡ number_named listed uri
    → StandsFor documents n (named (sites documents) uri)
names_it documents listed uri n is e =
    finds_place documents (names (sites documents) uri) (Some n) (e ∙ ap (λ ss. number_named ss uri) is)

pub names_none : (documents : Documents) (listed : List Site) (uri : Parts) → listed ≡ sites documents
    → None ≡ number_named listed uri → named (sites documents) uri ≡ None
names_none documents listed uri is e =
    finds_place documents (names (sites documents) uri) None (e ∙ ap (λ ss. number_named ss uri) is)
