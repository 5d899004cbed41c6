use Rattle.std.proofs.Common.{map}
use Rattle.std.specs.List.{flat_map}
use Rattle.std.proofs.lemmas.Result.{err_from_is_err_and}
use Rattle.js_doc.specs.Parts.{members_of}
use Rattle.js_bundle.specs.Refusals.{at_place, at_member}
use Rattle.js_bundle.specs.code.Scan.{site_of}
use Rattle.js_bundle.proofs.Checking.CheckStops.{stopped_here}
use Rattle.js_bundle.proofs.check.first_pass.check_site.Goals as goal

pub returns-in_err-check_place-clause-err : goal.returns-in_err-check_place-clause-err
returns-in_err-check_place-clause-err c =
    let before = map site_of c.args.known.sites.now in
    let site = site_of c.args.site.now in
    let p = err_from_is_err_and c.from_residual.result c.from_residual.ensures.1 in
    rw (p.1, p.2) (stopped_here (at_place before site) (flat_map (at_member before site) (members_of site.schema))
    c.in_err-check_place.field-0.0 c.in_err-check_place.ensures.err)
