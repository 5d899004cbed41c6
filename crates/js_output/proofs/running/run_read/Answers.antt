use Rattle.std.proofs.Common.{Err, [], ap, subst}
use Rattle.std.proofs.lemmas.Result.{err_from_is_err_and}
use Rattle.js_bundle.specs.Schemas.{place_at}
use Rattle.js_eval.specs.Result.{standard_limits}
use Rattle.js_output.specs.Entry.{entry_causes, entry_place}
use Rattle.js_output.specs.Outcome.{InstanceOutcome, TextOutcome, output_report}
use Rattle.js_output.specs.Report.{Answers}
use Rattle.js_output.proofs.Answering.{answers-after, answers-early, answers-input}
use Rattle.js_output.proofs.Answering.{answers-reported, input-over, left_all}
use Rattle.js_output.proofs.running.run_read.Goals as goal

pub returns-in_err-place-clause-answer : goal.returns-in_err-place-clause-answer
returns-in_err-place-clause-answer g c =
    let p = err_from_is_err_and c.from_residual.result c.from_residual.ensures.1 in
    let left = g.R.Read.remaining c.args.instance.now.device in
    let docs = c.args.schemas.now in
    rw (p.1, p.2) (answers-early output_report (InstanceOutcome docs (entry_place docs c.args.entry.now) c.args.format)
    g.W.Write.contents c.args.out.now c.args.out.now
    (entry_causes docs c.args.entry.now) left c.in_err-place.field-0.0 c.in_err-place.ensures.err)

pub returns-in_err-bytes-clause-answer : goal.returns-in_err-bytes-clause-answer
returns-in_err-bytes-clause-answer g c =
    let p = err_from_is_err_and c.from_residual-in_err-bytes.result c.from_residual-in_err-bytes.ensures.1 in
    let left = g.R.Read.remaining c.args.instance.now.device in
    let new = g.R.Read.remaining c.read_all.new.source.device in
    let docs = c.args.schemas.now in
    let taken = g.W.Write.contents in
    let reported = answers-input output_report (InstanceOutcome docs (entry_place docs c.args.entry.now) c.args.format)
    taken c.args.out.now c.args.out.now left new c.in_err-bytes.field-0.0
    (λ bytes. input-over bytes
    (TextOutcome standard_limits docs (entry_place docs c.args.entry.now) c.args.format bytes))
    c.in_err-bytes.ensures.faults (λ e. c.in_err-bytes.ensures.too_large (ap Err e)) in
    rw (p.1, p.2) (answers-after output_report (InstanceOutcome docs (entry_place docs c.args.entry.now) c.args.format)
    taken c.args.out.now c.args.out.now (entry_causes docs c.args.entry.now) left c.in_ok-place.ensures.clear
    (Err c.in_err-bytes.field-0.0) reported)

pub returns-clause-answer : goal.returns-clause-answer
returns-clause-answer g c =
    let left = g.R.Read.remaining c.args.instance.now.device in
    let docs = c.args.schemas.now in
    let bytes = c.in_ok-bytes.bytes.items in
    let taken = g.W.Write.contents in
    let whole = left_all left _ bytes c.in_ok-bytes.ensures.ok c.in_ok-bytes.ensures.end in
    let judged = rw c.as_slice.ensures.value at c.judge_fitting.ensures.answer in
    let read = answers-reported output_report (InstanceOutcome docs (place_at docs c.in_ok-place.place) c.args.format)
    taken c.args.out.now c.judge_fitting.new.out left bytes c.judge_fitting.result whole judged in
    let reported = subst (λ p. Answers output_report (InstanceOutcome docs p c.args.format) [] left taken c.args.out.now
    c.judge_fitting.new.out c.judge_fitting.result) c.in_ok-place.ensures.named read in
    answers-after output_report (InstanceOutcome docs (entry_place docs c.args.entry.now) c.args.format) taken
    c.args.out.now c.judge_fitting.new.out (entry_causes docs c.args.entry.now) left c.in_ok-place.ensures.clear
    c.judge_fitting.result reported
