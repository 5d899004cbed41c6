use Rattle.std.proofs.Common.{subst}
use Rattle.js_output.specs.Outcome.{FinishedOutcomeWithin, output_report}
use Rattle.js_output.specs.Report.{Reports}
use Rattle.js_output.proofs.finished.run_finished.Goals as goal

pub returns-clause-answer : goal.returns-clause-answer
returns-clause-answer g c =
    let docs = c.args.schemas.now in
    subst (λ l. Reports output_report (FinishedOutcomeWithin l docs c.args.entry.now c.args.format c.args.instance.now)
    g.W.Write.contents c.args.out.now c.run_finished_within.new.out c.run_finished_within.result)
    c.standard.ensures.is c.run_finished_within.ensures.answer
