use Rattle.std.proofs.Common.{◌≡◌, ◌∙◌, length, subst}
use Rattle.std.proofs.lemmas.Result.{err_from_is_err_and, IfOk-weaker, IfErr-weaker, on_ok_weaker}
use Rattle.js_doc.specs.Seen.{value_of}
use Rattle.js_output.specs.Cause.{MayGoOn, FailsBy}
use Rattle.js_output.specs.Documents.{uri_causes}
use Rattle.js_output.specs.Suite.{causes_with, documents_with, whole_causes}
use Rattle.js_output.proofs.CauseLists.{clear-append, fails-append, fails-later}
use Rattle.js_output.proofs.suite_judging.entry_at.Goals as goal

pub returns-in_err-bundle-clause-err : goal.returns-in_err-bundle-clause-err
returns-in_err-bundle-clause-err c =
    let p = err_from_is_err_and c.from_residual.result c.from_residual.ensures.1 in
    let docs = c.args.schemas.now in
    let uri = c.args.uri.now in
    rw (p.1, p.2) (fails-append (uri_causes (length docs) uri) (whole_causes (documents_with docs uri
    (value_of c.args.schema.now)) uri) c.in_err-bundle.field-0.0 c.in_err-bundle.ensures.err)

pub returns-clause-schemas : goal.returns-clause-schemas
returns-clause-schemas c =
    let all = documents_with c.args.schemas.now c.args.uri.now (value_of c.args.schema.now) in
    IfOk-weaker c.entry_in.result (λ e. e.schemas ≡ c.in_ok-bundle.bundle) (λ e. e.schemas ≡ all)
    (λ e h. h ∙ c.in_ok-bundle.ensures.ok) c.entry_in.ensures.schemas

pub returns-clause-clear : goal.returns-clause-clear
returns-clause-clear c =
    let docs = c.args.schemas.now in
    let uri = c.args.uri.now in
    let all = documents_with docs uri (value_of c.args.schema.now) in
    on_ok_weaker c.entry_in.result
    (λ h. clear-append (uri_causes (length docs) uri) (whole_causes all uri) c.in_ok-bundle.ensures.clear
    (subst (λ b. MayGoOn (whole_causes b uri)) c.in_ok-bundle.ensures.ok h)) c.entry_in.ensures.clear

pub returns-clause-err : goal.returns-clause-err
returns-clause-err c =
    let docs = c.args.schemas.now in
    let uri = c.args.uri.now in
    let all = documents_with docs uri (value_of c.args.schema.now) in
    IfErr-weaker c.entry_in.result (FailsBy (whole_causes c.in_ok-bundle.bundle uri))
    (FailsBy (causes_with docs uri (value_of c.args.schema.now)))
    (λ e h. fails-later (uri_causes (length docs) uri) (whole_causes all uri) e c.in_ok-bundle.ensures.clear
    (subst (λ b. FailsBy (whole_causes b uri) e) c.in_ok-bundle.ensures.ok h)) c.entry_in.ensures.err
