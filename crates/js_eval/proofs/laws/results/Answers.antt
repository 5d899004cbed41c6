use Rattle.js_eval.proofs.ResultExamples.{given}
use Rattle.js_eval.proofs.laws.results.Goals as goal

pub returns : goal.returns
returns c = given
