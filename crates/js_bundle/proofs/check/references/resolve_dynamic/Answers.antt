use Rattle.std.proofs.Common.{◌≡◌, IfOk, map, subst, sym, ap, ◌∙◌}
use Rattle.std.proofs.lemmas.Result.{err_from_is_err_and}
use Rattle.js_bundle.specs.Candidate.{IsStopped}
use Rattle.js_bundle.specs.Refusals.{at_reference}
use Rattle.js_bundle.specs.Target.{reference}
use Rattle.js_bundle.specs.code.Scan.{site_of}
use Rattle.js_bundle.specs.Finding.{dynamic_by}
use Rattle.js_bundle.proofs.Checking.ReferenceTexts.{reference_is, stopped_by_text}
use Rattle.js_bundle.proofs.check.references.resolve_dynamic.Goals as goal

pub returns-in_err-url-clause-err : goal.returns-in_err-url-clause-err
returns-in_err-url-clause-err c =
    let p = err_from_is_err_and c.from_residual.result c.from_residual.ensures.1 in
    let all = map site_of c.args.known.sites.now in
    let place = site_of c.args.site.now in
    let e = c.in_err-url.field-0.0 in
    rw (p.1, p.2) (subst (λ k. IsStopped (at_reference all k place) e) c.name-keyword.ensures
    (stopped_by_text all place c.name-keyword.result.now c.in-Some.text.now e c.in-Some.ensures
    c.in_err-url.ensures.err))

pub returns-clause-reference : goal.returns-clause-reference
returns-clause-reference c =
    let all = map site_of c.args.known.sites.now in
    let place = site_of c.args.site.now in
    subst (λ u. IfOk c.resolve_dynamic_url.result (λ r. r ≡ dynamic_by all u))
    (sym (ap (λ k. reference k place) (sym c.name-keyword.ensures)
    ∙ reference_is c.name-keyword.result.now place c.in-Some.text.now c.in_ok-url.url c.in-Some.ensures
    c.in_ok-url.ensures.short c.in_ok-url.ensures.url)) c.resolve_dynamic_url.ensures.reference
