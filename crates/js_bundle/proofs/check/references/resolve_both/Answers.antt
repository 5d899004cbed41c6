use Rattle.std.proofs.Common.{codes, map, subst}
use Rattle.std.proofs.lemmas.Result.{err_from_is_err_and}
use Rattle.js_bundle.specs.Candidate.{IsClear, IsStopped}
use Rattle.js_bundle.specs.Refusals.{at_reference}
use Rattle.js_bundle.specs.code.Scan.{site_of}
use Rattle.js_bundle.proofs.Checking.CheckStops.{clear_append, stopped_here, stopped_later}
use Rattle.js_bundle.proofs.check.references.resolve_both.Goals as goal

pub returns-in_err-dynamic-clause-err : goal.returns-in_err-dynamic-clause-err
returns-in_err-dynamic-clause-err c =
    let p = err_from_is_err_and c.from_residual.result c.from_residual.ensures.1 in
    let all = map site_of c.args.known.sites.now in
    let place = site_of c.args.site.now in
    rw (p.1, p.2) (stopped_here (at_reference all (codes "$dynamicRef") place) (at_reference all (codes "$ref") place)
    c.in_err-dynamic.field-0.0 c.in_err-dynamic.ensures.err)

pub returns-in_err-plain-clause-err : goal.returns-in_err-plain-clause-err
returns-in_err-plain-clause-err c =
    let p = err_from_is_err_and c.from_residual-in_err-plain.result c.from_residual-in_err-plain.ensures.1 in
    let all = map site_of c.args.known.sites.now in
    let place = site_of c.args.site.now in
    rw (p.1, p.2) (stopped_later (at_reference all (codes "$dynamicRef") place) (at_reference all (codes "$ref") place)
    c.in_err-plain.field-0.0 c.in_ok-dynamic.ensures.clear
    (subst (λ k. IsStopped (at_reference all k place) c.in_err-plain.field-0.0) c.name.ensures
    c.in_err-plain.ensures.err))

pub returns-clause-clear : goal.returns-clause-clear
returns-clause-clear c =
    let all = map site_of c.args.known.sites.now in
    let place = site_of c.args.site.now in
    clear_append (at_reference all (codes "$dynamicRef") place) (at_reference all (codes "$ref") place)
    c.in_ok-dynamic.ensures.clear
    (subst (λ k. IsClear (at_reference all k place)) c.name.ensures c.in_ok-plain.ensures.clear)
