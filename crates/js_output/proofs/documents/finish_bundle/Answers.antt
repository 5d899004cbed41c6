use Rattle.std.proofs.Common.{sym, subst}
use Rattle.js_output.specs.Cause.{FailsBy}
use Rattle.js_output.specs.Documents.{bundle_causes}
use Rattle.js_output.proofs.BundleCauses.{finish_clear, finish_fails}
use Rattle.js_output.proofs.documents.finish_bundle.Goals as goal

pub returns-in-Ok-clause-clear : goal.returns-in-Ok-clause-clear
returns-in-Ok-clause-clear c = finish_clear c.args.bundle c.in-Ok.ensures.clear

pub returns-in-Err-clause-err : goal.returns-in-Err-clause-err
returns-in-Err-clause-err c =
    subst (FailsBy (bundle_causes c.args.bundle)) (sym c.from.ensures)
    (finish_fails c.args.bundle c.in-Err.refusal c.in-Err.ensures.refused)
