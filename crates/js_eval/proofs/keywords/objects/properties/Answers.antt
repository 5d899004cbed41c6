use Rattle.js_eval.proofs.AskedNothing.{none_named}
use Rattle.js_eval.proofs.keywords.objects.properties.Goals as goal

pub returns-in_default-clause-asked : goal.returns-in_default-clause-asked
returns-in_default-clause-asked c = λ documents. rw (c.in_default.ensures, none_named)
