use Rattle.std.proofs.Common.{map}
use Rattle.js_bundle.specs.Seen.{document_of}
use Rattle.js_bundle.proofs.Finding.ResourceTableRead.{kept_number}
use Rattle.js_bundle.proofs.schemas.Schemas.resource_number.Goals as goal

pub returns : goal.returns
returns c =
    kept_number (map document_of c.self.inside.documents.items) c.args.self.now
    c.self.inside.checked.resources.numbers.items c.place.inside.number c.args.place c.index.result.now
    c.self.view_is c.place.view_is
    c.self.invariant.resources.numbers c.requires c.index.ensures
