use Rattle.std.proofs.Common.{subst}
use Rattle.std.proofs.lemmas.Result.{err_from_is_err_and, IfErr-weaker, on_ok_weaker}
use Rattle.js_output.specs.Cause.{MayGoOn, FailsBy}
use Rattle.js_output.specs.Documents.{documents_of, bundle_of, adding_causes, bundle_causes, documents_causes}
use Rattle.js_output.proofs.CauseLists.{clear-append, fails-append, fails-later}
use Rattle.js_output.proofs.documents.finished.Goals as goal

pub returns-in_err-bundle-clause-err : goal.returns-in_err-bundle-clause-err
returns-in_err-bundle-clause-err c =
    let p = err_from_is_err_and c.from_residual.result c.from_residual.ensures.1 in
    let docs = documents_of c.args.docs.now in
    rw (p.1, p.2) (fails-append (adding_causes 0 docs) (bundle_causes (bundle_of docs)) c.in_err-bundle.field-0.0
    c.in_err-bundle.ensures.err)

pub returns-clause-clear : goal.returns-clause-clear
returns-clause-clear c =
    let docs = documents_of c.args.docs.now in
    on_ok_weaker c.finish_bundle.result
    (λ h. clear-append (adding_causes 0 docs) (bundle_causes (bundle_of docs)) c.in_ok-bundle.ensures.clear
    (subst (λ b. MayGoOn (bundle_causes b)) c.in_ok-bundle.ensures.ok h)) c.finish_bundle.ensures.clear

pub returns-clause-err : goal.returns-clause-err
returns-clause-err c =
    let docs = documents_of c.args.docs.now in
    IfErr-weaker c.finish_bundle.result (FailsBy (bundle_causes c.in_ok-bundle.bundle))
    (FailsBy (documents_causes docs))
    (λ e h. fails-later (adding_causes 0 docs) (bundle_causes (bundle_of docs)) e c.in_ok-bundle.ensures.clear
    (subst (λ b. FailsBy (bundle_causes b) e) c.in_ok-bundle.ensures.ok h)) c.finish_bundle.ensures.err
