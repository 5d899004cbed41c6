use Rattle.std.proofs.Common.{map, ap, length, not, refl}
use Rattle.js_eval.specs.Applications.{among_indexes}
use Rattle.js_eval.specs.SchemaSet as spec
use Rattle.js_eval.specs.Sited.{numbered_site}
use Rattle.js_eval.proofs.ItemsLeft.{except_left}
use Rattle.js_eval.proofs.Started.{moved, on_items}
use Rattle.js_eval.proofs.keywords.unevaluated.unevaluated_items.Goals as goal

pub returns-clause-asked : goal.returns-clause-asked
returns-clause-asked c =
    moved (on_items (λ i. not (among_indexes i c.args.indexes.now))) _ _ _ _ _
    (ap (map (λ e. record {
      place = numbered_site c.args.start.now.schemas.now c.held_below-below.result.0;
      step = spec.Alone;
      at = spec.Index e.0;
      value = e.1;
    }))
    (except_left c.in_ok-passed_over.passed_over.items c.array-items.result.now (length c.array-items.result.now)
    c.args.indexes.now refl c.in_ok-passed_over.ensures))
    c.held_below-below.ensures.site c.array-items.ensures
