use Rattle.js_eval.proofs.AskedNothing.{from_first}
use Rattle.js_eval.proofs.keywords.contains.every.Goals as goal

pub returns-clause-asked : goal.returns-clause-asked
returns-clause-asked c = rw from_first at c.from_index.ensures.asked
