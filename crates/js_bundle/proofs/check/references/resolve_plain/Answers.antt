use Rattle.std.proofs.Common.{map}
use Rattle.std.proofs.lemmas.Result.{err_from_is_err_and}
use Rattle.js_bundle.specs.code.Scan.{site_of}
use Rattle.js_bundle.proofs.Checking.ReferenceTexts.{stopped_by_text}
use Rattle.js_bundle.proofs.check.references.resolve_plain.Goals as goal

pub returns-in_err-url-clause-err : goal.returns-in_err-url-clause-err
returns-in_err-url-clause-err c =
    let p = err_from_is_err_and c.from_residual.result c.from_residual.ensures.1 in
    rw (p.1, p.2) (stopped_by_text (map site_of c.args.known.sites.now) (site_of c.args.at.site.now)
    c.args.at.keyword.now c.in-Some.text.now c.in_err-url.field-0.0 c.in-Some.ensures c.in_err-url.ensures.err)
