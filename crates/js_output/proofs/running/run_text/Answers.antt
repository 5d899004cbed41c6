use Rattle.std.proofs.Common.{subst}
use Rattle.std.proofs.lemmas.Result.{err_from_is_err_and}
use Rattle.js_output.specs.Entry.{entry_causes, entry_place}
use Rattle.js_output.specs.Outcome.{FinishedOutcome, InstanceOutcome, output_report}
use Rattle.js_output.specs.Report.{Reports}
use Rattle.js_output.proofs.Answering.{after-clear, reports-early, reports-map}
use Rattle.js_output.proofs.running.run_text.Goals as goal

pub returns-in_err-place-clause-answer : goal.returns-in_err-place-clause-answer
returns-in_err-place-clause-answer g c =
    let p = err_from_is_err_and c.from_residual.result c.from_residual.ensures.1 in
    let docs = c.args.schemas.now in
    rw (p.1, p.2) (reports-early output_report g.W.Write.contents c.args.out.now c.args.out.now
    (entry_causes docs c.args.entry.now)
    (InstanceOutcome docs (entry_place docs c.args.entry.now) c.args.format c.args.instance.now)
    c.in_err-place.field-0.0 c.in_err-place.ensures.err)

pub returns-clause-answer : goal.returns-clause-answer
returns-clause-answer g c =
    let docs = c.args.schemas.now in
    let taken = g.W.Write.contents in
    let bytes = c.args.instance.now in
    let of = InstanceOutcome docs (entry_place docs c.args.entry.now) c.args.format bytes in
    let reported = subst (λ p. Reports output_report (InstanceOutcome docs p c.args.format bytes) taken c.args.out.now
    c.judge_fitting.new.out c.judge_fitting.result) c.in_ok-place.ensures.named c.judge_fitting.ensures.answer in
    reports-map output_report taken c.args.out.now c.judge_fitting.new.out of
    (FinishedOutcome docs c.args.entry.now c.args.format bytes) c.judge_fitting.result
    (after-clear (entry_causes docs c.args.entry.now) of c.in_ok-place.ensures.clear) reported
