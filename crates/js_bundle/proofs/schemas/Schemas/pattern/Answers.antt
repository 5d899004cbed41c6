use Rattle.std.proofs.Common.{Some, None}
use Rattle.js_bundle.proofs.Finding.PatternsFound.{in_order_at}
use Rattle.js_bundle.proofs.Finding.ListedUnderNumber.{pattern_is}
use Rattle.js_bundle.proofs.schemas.Schemas.pattern.Goals as goal

pub find_pattern-requires : goal.find_pattern-requires
find_pattern-requires c =
    in_order_at c.args.self.now c.patterns_of_place.ensures.read c.args.place c.patterns_of_place.result.now
    c.patterns_of_place.ensures.patterns

pub returns-in-Some : goal.returns-in-Some
returns-in-Some c =
    pattern_is c.args.self.now c.patterns_of_place.ensures.read c.args.place c.args.name.now
    c.patterns_of_place.result.now (Some c.in-Some.built.now) c.patterns_of_place.ensures.patterns c.in-Some.ensures

pub returns-in-None : goal.returns-in-None
returns-in-None c = pattern_is c.args.self.now c.patterns_of_place.ensures.read c.args.place c.args.name.now
    c.patterns_of_place.result.now None c.patterns_of_place.ensures.patterns c.in-None.ensures
