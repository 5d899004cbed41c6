use Rattle.std.proofs.Common.{ap, map, ◌∙◌}
use Rattle.js_tree.proofs.NotedRows.{units_of_one}
use Rattle.js_tree.proofs.reducing.noted_units.units.Goals as goal

pub returns : goal.returns
returns c = c.in_ok-add_units.ensures ∙ units_of_one c.args.tree.now c.from_ref.result.now _ c.from_ref.ensures.value
    (ap (map (λ unit. unit.now)) c.new-found.ensures.items)
