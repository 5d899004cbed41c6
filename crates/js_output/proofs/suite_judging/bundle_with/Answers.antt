use Rattle.std.proofs.Common.{length, subst}
use Rattle.std.proofs.lemmas.Result.{err_from_is_err_and}
use Rattle.js_output.specs.Cause.{MayGoOn, FailsBy}
use Rattle.js_output.specs.Documents.{uri_causes}
use Rattle.js_output.proofs.suite_judging.bundle_with.Goals as goal

pub returns-in_err-add_doc-clause-err : goal.returns-in_err-add_doc-clause-err
returns-in_err-add_doc-clause-err c =
    let p = err_from_is_err_and c.from_residual-in_err-add_doc.result c.from_residual-in_err-add_doc.ensures.1 in
    rw (p.1, p.2) (subst (λ b. FailsBy (uri_causes (length b) c.args.uri.now) c.in_err-add_doc.field-0.0)
    c.in_ok-bundle.ensures c.in_err-add_doc.ensures.err)

pub returns-clause-clear : goal.returns-clause-clear
returns-clause-clear c = subst (λ b. MayGoOn (uri_causes (length b) c.args.uri.now))
    c.in_ok-bundle.ensures c.in_ok-add_doc.ensures.clear
