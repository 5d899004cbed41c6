use Rattle.std.proofs.Common.{ℕ, List, Result, Err, ap, subst}
use Rattle.std.proofs.lemmas.Result.{err_from_is_err_and}
use Rattle.js_output.specs.Documents.{DocumentTexts, bundle_of, documents_of, documents_causes}
use Rattle.js_output.specs.Suite.{ReadLines, lines_report}
use Rattle.js_output.specs.SuiteText.{suite_reading}
use Rattle.js_output.specs.Report.{OfInput, Reports}
use Rattle.js_output.proofs.Answering.{reports-map, answers-reported, answers-input, answers-early}
use Rattle.js_output.proofs.Answering.{answers-after, input-over, input-within, left_all}
use Rattle.js_output.specs.declared.fault.Fault.{Fault}
use Rattle.js_output.specs.declared.suite_lines.TestLine.{TestLine}
use Rattle.js_output.proofs.suite.run_suite.Goals as goal

abbrev over : DocumentTexts → List ℕ → Result (List TestLine) Fault → Type 0
over docs bytes = OfInput bytes (ReadLines (bundle_of docs) (suite_reading bytes))

pub returns-in_err-schemas-clause-answer : goal.returns-in_err-schemas-clause-answer
returns-in_err-schemas-clause-answer g c =
    let p = err_from_is_err_and c.from_residual.result c.from_residual.ensures.1 in
    let docs = documents_of c.args.docs.now in
    rw (p.1, p.2) (answers-early lines_report (over docs) g.W.Write.contents c.args.out.now c.args.out.now
    (documents_causes docs) (g.R.Read.remaining c.args.suite.now.device) c.in_err-schemas.field-0.0
    c.in_err-schemas.ensures.err)

pub returns-in_err-bytes-clause-answer : goal.returns-in_err-bytes-clause-answer
returns-in_err-bytes-clause-answer g c =
    let p = err_from_is_err_and c.from_residual-in_err-bytes.result c.from_residual-in_err-bytes.ensures.1 in
    let docs = documents_of c.args.docs.now in
    let left = g.R.Read.remaining c.args.suite.now.device in
    let new = g.R.Read.remaining c.read_all.new.source.device in
    let taken = g.W.Write.contents in
    rw (p.1, p.2) (answers-after lines_report (over docs) taken c.args.out.now c.args.out.now (documents_causes docs)
    left c.in_ok-schemas.ensures.clear (Err c.in_err-bytes.field-0.0)
    (answers-input lines_report (over docs) taken c.args.out.now c.args.out.now left new c.in_err-bytes.field-0.0
    (λ bytes. input-over bytes (ReadLines (bundle_of docs) (suite_reading bytes))) c.in_err-bytes.ensures.faults
    (λ e. c.in_err-bytes.ensures.too_large (ap Err e))))

pub returns-clause-answer : goal.returns-clause-answer
returns-clause-answer g c =
    let docs = documents_of c.args.docs.now in
    let left = g.R.Read.remaining c.args.suite.now.device in
    let bytes = c.in_ok-bytes.bytes.items in
    let read = ReadLines (bundle_of docs) (suite_reading bytes) in
    let taken = g.W.Write.contents in
    let given = rw c.as_slice.ensures.value at c.run_suite_text.ensures.answer in
    let reported = subst (λ d. Reports lines_report (ReadLines d (suite_reading bytes)) taken c.args.out.now
    c.run_suite_text.new.out c.run_suite_text.result) c.in_ok-schemas.ensures.ok given in
    answers-after lines_report (over docs) taken c.args.out.now
    c.run_suite_text.new.out (documents_causes docs) left c.in_ok-schemas.ensures.clear c.run_suite_text.result
    (answers-reported lines_report (over docs) taken c.args.out.now
    c.run_suite_text.new.out left bytes c.run_suite_text.result
    (left_all left _ bytes c.in_ok-bytes.ensures.ok c.in_ok-bytes.ensures.end)
    (reports-map lines_report taken c.args.out.now c.run_suite_text.new.out read (OfInput bytes read)
    c.run_suite_text.result (input-within bytes read c.in_ok-bytes.ensures.fits) reported))
