use Rattle.js_output.proofs.FinishedSchemas.{outcome_apart, outcome_together}
use Rattle.js_output.proofs.laws.outcome_in_parts.Goals as goal

pub returns : goal.returns
returns c = λ limits documents entry format instance outcome. (
  outcome_apart limits documents entry format instance outcome,
  outcome_together limits documents entry format instance outcome,
)
