use Rattle.std.proofs.Common.{subst}
use Rattle.js_bundle.specs.Schemas.{place_at}
use Rattle.js_eval.specs.Result.{standard_limits}
use Rattle.js_output.specs.Outcome.{InstanceOutcome, TextOutcome, output_report}
use Rattle.js_output.specs.Report.{Reports}
use Rattle.js_output.proofs.Answering.{input-within, reports-map}
use Rattle.js_output.proofs.running.judge_fitting.Goals as goal

pub returns-clause-answer : goal.returns-clause-answer
returns-clause-answer g c =
    let docs = c.args.schemas.now in
    let bytes = c.args.instance.now in
    let place = place_at docs c.args.place in
    let taken = g.W.Write.contents in
    let judged = subst (λ l. Reports output_report (TextOutcome l docs place c.args.format bytes) taken c.args.out.now
    c.judge_text.new.out c.judge_text.result) c.standard.ensures.is c.judge_text.ensures.answer in
    let of = TextOutcome standard_limits docs place c.args.format bytes in
    reports-map output_report taken c.args.out.now c.judge_text.new.out of
    (InstanceOutcome docs place c.args.format bytes) c.judge_text.result
    (input-within bytes of c.requires.fits) judged
