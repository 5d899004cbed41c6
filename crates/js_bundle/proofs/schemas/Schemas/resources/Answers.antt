use Rattle.std.proofs.Common.{map, ap, ◌++◌, ◌∙◌}
use Rattle.js_bundle.specs.Resource.{sites}
use Rattle.js_bundle.specs.Schemas.{numbered, resources_at, lent}
use Rattle.js_bundle.specs.code.CheckedSite.{checked_site_of, resource_listed}
use Rattle.js_bundle.proofs.Finding.ResourcesNext.{next_resources}
use Rattle.js_bundle.proofs.schemas.Schemas.resources.Goals as goal

pub loop-number-preserved : goal.loop-number-preserved
loop-number-preserved c =
    let n = c.loop-number.number in
    let old = map lent c.loop-number.resources.items in
    let mid = map lent c.push_listed.new.out.items in
    next_resources c.args.self.now n (checked_site_of c.checked_site-site.result.now) old mid
    (map lent c.push_listed-in-loop-number.new.out.items) (numbered resources_at 0 (sites c.args.self.now))
    c.checked_site-site.ensures
    (c.in_ok-push_listed.ensures ∙ ap (λ o. old ++ resource_listed n o) c.document_uri.ensures)
    (c.in_ok-push_listed-2.ensures ∙ ap (λ o. mid ++ resource_listed n o) c.base_made.ensures) c.loop-number.invariant
