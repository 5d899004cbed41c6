use Rattle.std.proofs.Common.{option_map}
use Rattle.js_bundle.proofs.Finding.ListedUnderNumber.{assertion_is}
use Rattle.js_bundle.proofs.schemas.Schemas.assertion.Goals as goal

pub returns : goal.returns
returns c = assertion_is c.args.self.now c.args.place c.args.keyword.now c.assertions.result.now
    (option_map (λ a. a.now) c.find_assertion.result) c.assertions.ensures c.find_assertion.ensures
