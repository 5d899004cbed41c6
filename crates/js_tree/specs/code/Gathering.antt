-- Text that is gathered before it goes out (of private functions).
use Rattle.std.specs.Prelude.{◌≡◌, ℕ, List, ◌++◌, Result, MatchResult}
use Rattle.js_doc.specs.BytesOut.{Goes, Progress, Stops}

-- what was gathered and then the text have gone out, but for what is gathered now
abbrev pub Gathers : Progress → Progress → List ℕ → List ℕ → List ℕ → Type 0
Gathers old new before after text = (gone : List ℕ) × Goes old new gone × (before ++ text ≡ gone ++ after)

-- or a prefix of them has gone out, and it has stopped
abbrev pub GathersOrStops : {T E : Type 0} → Progress → Progress → List ℕ → List ℕ → List ℕ → Result T E → Type 0
GathersOrStops old new before after text result =
    MatchResult result (λ _. Gathers old new before after text) (λ _. Stops old new (before ++ text))
