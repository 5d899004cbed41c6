use Rattle.std.proofs.Common.{ap, ◌∙◌, ◌∷◌, []}
use Rattle.js_eval.specs.SchemaSet as spec
use Rattle.js_eval.specs.Seen.{instance_of}
use Rattle.js_eval.proofs.keywords.in_place.held.Goals as goal

pub returns-clause-asked : goal.returns-clause-asked
returns-clause-asked c = c.alone.ensures.asked c.args.start.now.schemas.now
    ∙ ap (λ s. record { place = s; step = spec.Alone; at = spec.Alone; value = instance_of c.args.start.now.value }
    ∷ []) c.held_below-place.ensures.site
