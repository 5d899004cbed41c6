use Rattle.std.proofs.Common.{ap, ◌∙◌, ◌∷◌, []}
use Rattle.js_eval.specs.SchemaSet as spec
use Rattle.js_eval.specs.Seen.{instance_of}
use Rattle.js_eval.proofs.keywords.references.referred_dynamically.Goals as goal

pub returns-clause-asked : goal.returns-clause-asked
returns-clause-asked c = c.alone.ensures.asked c.args.schemas.now
    ∙ ap (λ s. record { place = s; step = spec.Alone; at = spec.Alone; value = instance_of c.args.value } ∷ [])
    c.dynamic_target_at-place.ensures.site
