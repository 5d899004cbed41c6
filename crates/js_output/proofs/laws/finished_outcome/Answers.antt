use Rattle.js_output.proofs.FinishedSchemas.{finished_are, outcome_over, outcome_under}
use Rattle.js_output.proofs.laws.finished_outcome.Goals as goal

pub returns-clause-schemas : goal.returns-clause-schemas
returns-clause-schemas c = finished_are

pub returns-clause-over : goal.returns-clause-over
returns-clause-over c = λ documents schemas is limits entry format instance outcome h.
    let (of, clear) = finished_are documents schemas is in
    outcome_over limits documents entry format instance outcome schemas of clear h

pub returns-clause-under : goal.returns-clause-under
returns-clause-under c = λ documents schemas is limits entry format instance outcome h.
    let (of, clear) = finished_are documents schemas is in
    outcome_under limits documents entry format instance outcome schemas of h
