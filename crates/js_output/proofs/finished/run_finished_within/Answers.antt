use Rattle.std.proofs.Common.{subst}
use Rattle.std.proofs.lemmas.Result.{IfErr-weaker, err_from_is_err_and}
use Rattle.js_output.specs.Entry.{entry_causes, entry_place}
use Rattle.js_output.specs.Outcome.{InstanceOutcomeWithin, FinishedOutcomeWithin, IsFinishedFault}
use Rattle.js_output.specs.Outcome.{IsInstanceFault, output_report}
use Rattle.js_output.specs.Report.{Reports}
use Rattle.js_output.proofs.Answering.{after-clear, entry-finished, instance-finished, reports-early, reports-map}
use Rattle.js_output.proofs.finished.run_finished_within.Goals as goal

pub returns-in_err-place-clause-answer : goal.returns-in_err-place-clause-answer
returns-in_err-place-clause-answer g c =
    let p = err_from_is_err_and c.from_residual.result c.from_residual.ensures.1 in
    let docs = c.args.schemas.now in
    rw (p.1, p.2) (reports-early output_report g.W.Write.contents c.args.out.now c.args.out.now
    (entry_causes docs c.args.entry.now)
    (InstanceOutcomeWithin c.args.limits docs (entry_place docs c.args.entry.now) c.args.format c.args.instance.now)
    c.in_err-place.field-0.0 c.in_err-place.ensures.err)

pub returns-clause-answer : goal.returns-clause-answer
returns-clause-answer g c =
    let docs = c.args.schemas.now in
    let taken = g.W.Write.contents in
    let of = InstanceOutcomeWithin c.args.limits docs (entry_place docs c.args.entry.now) c.args.format
    c.args.instance.now in
    let reported = subst (λ p. Reports output_report (InstanceOutcomeWithin c.args.limits docs p c.args.format
    c.args.instance.now) taken
    c.args.out.now c.judge_within.new.out c.judge_within.result) c.in_ok-place.ensures.named
    c.judge_within.ensures.answer in
    reports-map output_report taken c.args.out.now c.judge_within.new.out of
    (FinishedOutcomeWithin c.args.limits docs c.args.entry.now c.args.format c.args.instance.now) c.judge_within.result
    (after-clear (entry_causes docs c.args.entry.now) of c.in_ok-place.ensures.clear) reported

pub returns-in_err-place-clause-faults : goal.returns-in_err-place-clause-faults
returns-in_err-place-clause-faults g c =
    let p = err_from_is_err_and c.from_residual.result c.from_residual.ensures.1 in
    rw (p.1, p.2) (entry-finished c.in_err-place.field-0.0 c.in_err-place.ensures.entry)

pub returns-clause-faults : goal.returns-clause-faults
returns-clause-faults g c =
    IfErr-weaker c.judge_within.result IsInstanceFault IsFinishedFault instance-finished c.judge_within.ensures.faults
