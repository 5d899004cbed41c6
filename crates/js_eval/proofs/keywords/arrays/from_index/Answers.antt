use Rattle.std.proofs.Common.{map, ap, nat_le}
use Rattle.js_eval.specs.SchemaSet as spec
use Rattle.js_eval.specs.Sited.{numbered_site}
use Rattle.js_eval.proofs.ItemsLeft.{from_left}
use Rattle.js_eval.proofs.Started.{moved, on_items}
use Rattle.js_eval.proofs.keywords.arrays.from_index.Goals as goal

pub returns-clause-asked : goal.returns-clause-asked
returns-clause-asked c =
    moved (on_items (nat_le c.args.first)) _ _ _ _ _
    (ap (map (λ e. record {
      place = numbered_site c.args.start.now.schemas.now c.held_below-below.result.0;
      step = spec.Alone;
      at = spec.Index e.0;
      value = e.1;
    }))
    (from_left c.new.result.items c.array.result.now c.args.first c.new.ensures.items))
    c.held_below-below.ensures.site c.array.ensures
