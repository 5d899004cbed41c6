use Rattle.std.proofs.lemmas.Result.{err_from_is_err_and}
use Rattle.js_output.proofs.BundleCauses.{one_taken, one_refused, taken_clear_all}
use Rattle.js_output.proofs.documents.bundled.Goals as goal

pub returns-in_err-add_document_text-clause-err : goal.returns-in_err-add_document_text-clause-err
returns-in_err-add_document_text-clause-err c =
    let p = err_from_is_err_and c.from_residual.result c.from_residual.ensures.1 in
    rw (p.1, p.2) (one_refused c.loop-document.bundle c.loop-document.document-index c.args.docs.now _
    c.in_err-add_document_text.field-0.0 c.loop-document-test.true c.loop-document.invariant
    c.in_err-add_document_text.ensures.err)

pub loop-document-preserved : goal.loop-document-preserved
loop-document-preserved c =
    one_taken c.loop-document.bundle c.add_document_text.new.bundle c.loop-document.document-index c.args.docs.now _
    c.loop-document-test.true c.loop-document.invariant c.in_ok-add_document_text.ensures.ok

pub returns-clause-clear : goal.returns-clause-clear
returns-clause-clear c = taken_clear_all c.loop-document.bundle c.loop-document.document-index c.args.docs.now
    c.loop-document-test.false c.loop-document.invariant
