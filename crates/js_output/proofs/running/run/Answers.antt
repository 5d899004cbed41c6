use Rattle.std.proofs.Common.{subst}
use Rattle.std.proofs.lemmas.Result.{err_from_is_err_and}
use Rattle.js_output.specs.Documents.{documents_of, bundle_of, documents_causes}
use Rattle.js_output.specs.Entry.{entry_causes, entry_place}
use Rattle.js_output.specs.Outcome.{InstanceOutcome, FinishedOutcome, beginning_causes, output_report}
use Rattle.js_output.specs.Report.{Answers}
use Rattle.js_output.proofs.Answering.{answers-early, answers-onto}
use Rattle.js_output.proofs.CauseLists.{fails-append}
use Rattle.js_output.proofs.running.run.Goals as goal

pub returns-in_err-schemas-clause-answer : goal.returns-in_err-schemas-clause-answer
returns-in_err-schemas-clause-answer g c =
    let p = err_from_is_err_and c.from_residual.result c.from_residual.ensures.1 in
    let left = g.R.Read.remaining c.args.instance.now.device in
    let docs = documents_of c.args.docs.now in
    let entry = c.args.entry.now in
    rw (p.1, p.2) (answers-early output_report (InstanceOutcome (bundle_of docs) (entry_place (bundle_of docs) entry)
    c.args.format) g.W.Write.contents c.args.out.now c.args.out.now
    (beginning_causes docs entry) left c.in_err-schemas.field-0.0 (fails-append (documents_causes docs)
    (entry_causes (bundle_of docs) entry) c.in_err-schemas.field-0.0 c.in_err-schemas.ensures.err))

pub returns-clause-answer : goal.returns-clause-answer
returns-clause-answer g c =
    let left = g.R.Read.remaining c.args.instance.now.device in
    let docs = documents_of c.args.docs.now in
    let entry = c.args.entry.now in
    let taken = g.W.Write.contents in
    let reported = subst (λ d. Answers output_report (FinishedOutcome d entry c.args.format) (entry_causes d entry) left
    taken c.args.out.now c.run_read.new.out c.run_read.result) c.in_ok-schemas.ensures.ok
    c.run_read.ensures.answer in
    answers-onto output_report (InstanceOutcome (bundle_of docs) (entry_place (bundle_of docs) entry) c.args.format)
    taken c.args.out.now c.run_read.new.out (documents_causes docs) (entry_causes (bundle_of docs) entry) left
    c.in_ok-schemas.ensures.clear c.run_read.result reported
