use Rattle.js_eval.proofs.AssertionThere.{assertion_is}
use Rattle.js_eval.specs.Seen.{keyword_of}
use Rattle.js_eval.proofs.keywords.assertions.look_up_assertion.Goals as goal

pub returns : goal.returns
returns c =
    assertion_is c.args.schemas.now c.args.place (keyword_of c.args.keyword) _ c.requires.place
    c.requires.keyword c.assertion.ensures
