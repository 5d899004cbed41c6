use Rattle.std.proofs.Common.{Some, option_map, ap, sym, ◌∙◌}
use Rattle.js_bundle.specs.Location.{location}
use Rattle.js_bundle.specs.Schemas.{place_at}
use Rattle.js_eval.proofs.Paths.{first_alone}
use Rattle.js_eval.proofs.public_walks.location_at.Goals as goal

pub returns-then-is_empty : goal.returns-then-is_empty
returns-then-is_empty c =
    let lent = c.location_of.result in
    let place = option_map location (place_at c.args.schemas.now c.args.place) in
    first_alone place lent.0.now lent.1.now (sym c.is_empty.ensures ∙ c.if-is_empty.true) c.location_of.ensures

pub returns : goal.returns
returns c = c.in_ok-whole.ensures ∙ ap Some (sym (c.in_ok-kept.ensures ∙ c.as_str.ensures.value))
