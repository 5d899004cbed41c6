use Rattle.std.proofs.Common.{length}
use Rattle.std.proofs.lemmas.Result.{err_from_is_err_and}
use Rattle.js_output.proofs.BundleCauses.{add_fails}
use Rattle.js_output.proofs.documents.add_document_text.Goals as goal

pub returns-in_err-add-clause-err : goal.returns-in_err-add-clause-err
returns-in_err-add-clause-err c =
    let p = err_from_is_err_and c.from_residual.result c.from_residual.ensures.1 in
    rw (p.1, p.2) (add_fails (length c.args.bundle.now) c.args.uri.now c.args.bytes.now c.in_err-add.field-0.0
    c.in_err-add.ensures.refused)
