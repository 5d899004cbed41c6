use Rattle.js_eval.proofs.Examples.{shown}
use Rattle.js_eval.proofs.laws.examples.Goals as goal

pub returns : goal.returns
returns c = shown
