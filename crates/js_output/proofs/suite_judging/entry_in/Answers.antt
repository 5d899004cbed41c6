use Rattle.std.proofs.Common.{subst}
use Rattle.std.proofs.lemmas.Result.{err_from_is_err_and}
use Rattle.js_output.specs.Cause.{MayGoOn, FailsBy}
use Rattle.js_output.specs.Documents.{bundle_causes}
use Rattle.js_output.specs.Entry.{entry_causes}
use Rattle.js_output.proofs.CauseLists.{clear-append, fails-append, fails-later}
use Rattle.js_output.proofs.suite_judging.entry_in.Goals as goal

pub returns-in_err-schemas-clause-err : goal.returns-in_err-schemas-clause-err
returns-in_err-schemas-clause-err c =
    let p = err_from_is_err_and c.from_residual.result c.from_residual.ensures.1 in
    rw (p.1, p.2) (fails-append (bundle_causes c.args.bundle) (entry_causes c.args.bundle c.args.uri.now)
    c.in_err-schemas.field-0.0 c.in_err-schemas.ensures.err)

pub returns-in_err-place-clause-err : goal.returns-in_err-place-clause-err
returns-in_err-place-clause-err c =
    let p = err_from_is_err_and c.from_residual-in_err-place.result c.from_residual-in_err-place.ensures.1 in
    let e = c.in_err-place.field-0.0 in
    let fails = subst (λ s. FailsBy (entry_causes s c.args.uri.now) e) c.in_ok-schemas.ensures.ok
    c.in_err-place.ensures.err in
    rw (p.1, p.2) (fails-later (bundle_causes c.args.bundle) (entry_causes c.args.bundle c.args.uri.now) e
    c.in_ok-schemas.ensures.clear fails)

pub returns-clause-clear : goal.returns-clause-clear
returns-clause-clear c =
    clear-append (bundle_causes c.args.bundle) (entry_causes c.args.bundle c.args.uri.now) c.in_ok-schemas.ensures.clear
    (subst (λ s. MayGoOn (entry_causes s c.args.uri.now)) c.in_ok-schemas.ensures.ok c.in_ok-place.ensures.clear)
