-- A keyword that applies a schema at a step is one that holds schemas so.
use Rattle.std.specs.Prelude.{◌≡◌, true}
use Rattle.std.proofs.lemmas.Bool.{and_parts}
use Rattle.js_keyword.specs.Keyword.{applies, subschemas, which_keyword}
use Rattle.js_bundle.specs.Keyword.{Text}
use Rattle.js_bundle.specs.Place.{holding}
use Rattle.js_bundle.specs.Ranked.{applies_at}
use Rattle.js_bundle.specs.Schemas.{Step, fits}

pub applies_fits : (name : Text) (step : Step)
    → applies_at (which_keyword name) step ≡ true → fits (holding name) step ≡ true
unfolding holding
applies_fits name step e =
    (and_parts (applies (which_keyword name)) (fits (subschemas (which_keyword name)) step) e).1
