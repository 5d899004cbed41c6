use Rattle.std.proofs.Common.{map}
use Rattle.js_bundle.specs.Seen.{document_of}
use Rattle.js_bundle.proofs.Finding.CheckedPlaces.{kept_site_at}
use Rattle.js_bundle.proofs.schemas.Schemas.checked_site.Goals as goal

pub returns : goal.returns
returns c =
    kept_site_at (map document_of c.self.inside.documents.items) c.args.self.now c.self.inside.checked.sites.items
    c.place.inside.number c.args.place c.index.result.now c.self.view_is c.place.view_is
    c.self.invariant.checked_sites c.requires c.index.ensures
