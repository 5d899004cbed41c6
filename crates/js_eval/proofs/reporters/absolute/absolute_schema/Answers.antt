use Rattle.std.proofs.Common.{◌++◌, ◌∙◌}
use Rattle.js_eval.proofs.Paths.{location_is}
use Rattle.js_eval.proofs.reporters.absolute.absolute_schema.Goals as goal

pub returns : goal.returns
returns c =
    let lent = c.location_of.result in
    let whole = lent.0.now ++ lent.1.now in
    c.new.ensures ∙ c.in_ok-whole.ensures
    ∙ location_is c.args.schemas.now c.args.place whole c.location_of.ensures
