use Rattle.js_bundle.specs.Schemas.{place_at}
use Rattle.js_output.specs.Outcome.{InstanceOutcomeWithin, TextOutcome, output_report}
use Rattle.js_output.proofs.Answering.{input-within, reports-map}
use Rattle.js_output.proofs.finished.judge_within.Goals as goal

pub returns-clause-answer : goal.returns-clause-answer
returns-clause-answer g c =
    let docs = c.args.schemas.now in
    let of = TextOutcome c.args.limits docs (place_at docs c.args.place) c.args.format c.args.instance.now in
    reports-map output_report g.W.Write.contents c.args.out.now c.judge_text.new.out of
    (InstanceOutcomeWithin c.args.limits docs (place_at docs c.args.place) c.args.format c.args.instance.now)
    c.judge_text.result
    (input-within c.args.instance.now of c.if-instance-gt-LIMIT.false) c.judge_text.ensures.answer
