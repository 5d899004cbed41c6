use Rattle.std.proofs.Common.{ap, sym}
use Rattle.js_eval.specs.Evaluated.{origins}
use Rattle.js_eval.proofs.evaluation.keeping.origins_of.Goals as goal

pub returns-in-Contains : goal.returns-in-Contains
returns-in-Contains c = ap origins (sym c.in-Contains.is)
