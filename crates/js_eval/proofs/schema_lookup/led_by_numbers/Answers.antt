use Rattle.std.proofs.Common.{subst}
use Rattle.js_bundle.specs.Schemas.{StandsFor}
use Rattle.js_eval.proofs.DynamicScopes.{led_alike}
use Rattle.js_eval.proofs.schema_lookup.led_by_numbers.Goals as goal

pub returns : goal.returns
returns c =
    subst (StandsFor c.args.schemas.now c.led_in.result)
    (led_alike c.a_number_determines_a_resource.ensures c.numbers_determine_the_dynamic_scope.ensures c.args.schemas.now
    c.args._path.now c.args.resources.now c.args.place c.requires.path c.requires.resources)
    c.led_in.ensures
