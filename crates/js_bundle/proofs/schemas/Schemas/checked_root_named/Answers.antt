use Rattle.std.proofs.Common.{map, ap, ◌∙◌}
use Rattle.js_bundle.specs.Seen.{document_of}
use Rattle.js_bundle.specs.code.CheckedSite.{checked_site_of}
use Rattle.js_bundle.proofs.Finding.KnownRoots.{known_root, no_known_root}
use Rattle.js_bundle.proofs.schemas.Schemas.checked_root_named.Goals as goal

pub returns-in-Some : goal.returns-in-Some
returns-in-Some c =
    known_root c.self.inside.checked.index (map document_of c.self.inside.documents.items) c.args.self.now
    c.as_slice.result.now c.args.uri.now c.in-Some.number _ c.self.view_is
    (ap (map checked_site_of) c.as_slice.ensures.value ∙ c.self.invariant.checked_sites) c.self.invariant.index
    c.in-Some.ensures c.checked_root_at.ensures

pub returns-in-None : goal.returns-in-None
returns-in-None c =
    no_known_root c.self.inside.checked.index (map document_of c.self.inside.documents.items) c.args.self.now
    c.args.uri.now c.self.view_is c.self.invariant.index c.in-None.ensures
