use Rattle.js_eval.proofs.AskedNothing.{none_named}
use Rattle.js_eval.proofs.keywords.conditional.dependent.Goals as goal

pub returns-in-None-clause-asked : goal.returns-in-None-clause-asked
returns-in-None-clause-asked c = rw (c.in-None.ensures, none_named)
