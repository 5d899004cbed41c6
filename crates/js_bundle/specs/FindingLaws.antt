-- In documents that are accepted, what the schema of a place holds and names is found: below a place at each step at
-- which a keyword holds a schema, and as the target of each reference, whatever the dynamic scope.
use Rattle.std.specs.Prelude.{◌≡◌, ℕ, List, true, Some, codes}
use Rattle.js_doc.specs.Value.{Value}
use Rattle.js_bundle.specs.Candidate.{IsClear}
use Rattle.js_bundle.specs.Document.{Documents}
use Rattle.js_bundle.specs.Keyword.{Text, has_argument}
use Rattle.js_bundle.specs.Refusals.{candidates}
use Rattle.js_bundle.specs.Resource.{Site, sites}
use Rattle.js_bundle.specs.PlaceNumber.{place_at}
use Rattle.js_bundle.specs.Schemas.{below, Holds, Step}
use Rattle.js_bundle.specs.Seen.{AreRead}
use Rattle.js_bundle.specs.Target.{ref_target, dynamic_ref_target}

pub record FindsAll (documents : Documents) (place : Site) : Type 0 where
  -- the place below it has the schema that is held
  pub below : (k : Text) (step : Step) (u : Value) → Holds place.schema k step u
      → (t : Site) × (below documents place k step ≡ Some t) × (t.schema ≡ u)
  pub target : has_argument (codes "$ref") place.schema ≡ true
      → (t : Site) × (ref_target (sites documents) place ≡ Some t)
  pub dynamic_target : (path : List Site) → has_argument (codes "$dynamicRef") place.schema ≡ true
      → (t : Site) × (dynamic_ref_target (sites documents) path place ≡ Some t)

abbrev pub EachIsFound : Type 0
EachIsFound = (documents : Documents) → AreRead documents → IsClear (candidates documents) → (n : ℕ) (place : Site)
    → place_at documents n ≡ Some place → FindsAll documents place
