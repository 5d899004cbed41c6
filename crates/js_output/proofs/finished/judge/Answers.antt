use Rattle.std.proofs.Common.{subst}
use Rattle.js_bundle.specs.Schemas.{place_at}
use Rattle.js_output.specs.Outcome.{InstanceOutcomeWithin, output_report}
use Rattle.js_output.specs.Report.{Reports}
use Rattle.js_output.proofs.finished.judge.Goals as goal

pub returns-clause-answer : goal.returns-clause-answer
returns-clause-answer g c =
    let docs = c.args.schemas.now in
    subst (λ l. Reports output_report (InstanceOutcomeWithin l docs (place_at docs c.args.place) c.args.format
    c.args.instance.now) g.W.Write.contents c.args.out.now c.judge_within.new.out c.judge_within.result)
    c.standard.ensures.is c.judge_within.ensures.answer
