use Rattle.std.proofs.Common.{map}
use Rattle.js_bundle.specs.MemberKeywords.{member_keywords}
use Rattle.js_bundle.specs.Seen.{document_of}
use Rattle.js_bundle.proofs.Indexing.PartsOfPlaces.{part_of}
use Rattle.js_bundle.proofs.schemas.Schemas.keyword_names.Goals as goal

pub returns : goal.returns
returns c =
    part_of member_keywords (map document_of c.self.inside.documents.items) c.args.self.now
    c.self.inside.checked.keywords.names.items c.as_slice.result.now c.self.inside.checked.keywords.ends.items
    c.as_slice-2.result.now c.place.inside.number c.args.place
    c.part_of_place.result.now c.self.view_is c.place.view_is c.self.invariant.keywords c.requires
    c.as_slice.ensures.value c.as_slice-2.ensures.value c.part_of_place.ensures
