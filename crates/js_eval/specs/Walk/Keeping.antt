-- What a keyword has evaluated of an instance, application by application.
use Rattle.std.specs.Prelude.{ℕ, ◌==◌, List, [], Bool, cond, Option, Some}
use Rattle.js_keyword.specs.declared.keyword.Keyword.{Keyword}
use Rattle.js_keyword.specs.declared.keyword.Keyword.TheVariants.{If, Contains}
use Rattle.js_eval.specs.declared.evaluation.keeping.Origin.{Origin}
use Rattle.js_eval.specs.declared.evaluation.keeping.Origin.TheVariants.{Applied, Holding, Below, Nowhere}

-- what it has evaluated by one application to `own`, whose schema has evaluated `given`
abbrev pub keeps : {A : Type 0} → Origin → Bool → List A → List A → List A
keeps Applied holds own given = own
keeps Holding holds own given = cond holds own []
keeps Below holds own given = given
keeps Nowhere holds own given = []

-- the verdict of `if`, and how many items match `contains`, after a keyword of which this many applications hold
abbrev pub condition_step : Keyword → ℕ → Option Bool → Option Bool
condition_step If succeeded before = Some (succeeded == 1)
condition_step _ succeeded before = before

abbrev pub matching_step : Keyword → ℕ → ℕ → ℕ
matching_step Contains succeeded before = succeeded
matching_step _ succeeded before = before
