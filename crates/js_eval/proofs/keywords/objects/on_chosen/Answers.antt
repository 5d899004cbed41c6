use Rattle.std.proofs.Common.{map, filter, ap₂}
use Rattle.js_eval.specs.code.Applied.{applied_value, at_in}
use Rattle.js_eval.specs.code.Cursors.{is_chosen}
use Rattle.js_eval.specs.SchemaSet as spec
use Rattle.js_eval.proofs.keywords.objects.on_chosen.Goals as goal

pub returns-clause-asked : goal.returns-clause-asked
returns-clause-asked c =
    let to = c.args.to in
    ap₂ (λ s ms. map (λ m. record
    { place = s; step = spec.Alone; at = at_in to (spec.Name m.0); value = applied_value to (spec.Name m.0) m.1 })
    (filter (λ m. is_chosen c.args.choice m.0) ms))
    c.held_below-below.ensures.site c.pairs.ensures.pairs
