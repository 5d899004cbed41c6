use Rattle.std.proofs.Common.{map, is_some, ap, ◌∙◌}
use Rattle.js_bundle.specs.code.PlaceNumbers.{under_number}
use Rattle.js_bundle.specs.Seen.{document_of}
use Rattle.js_bundle.proofs.Finding.ListedUnderNumber.{has_ref_listed}
use Rattle.js_bundle.proofs.schemas.Schemas.has_ref.Goals as goal

pub returns : goal.returns
returns c =
    let n = c.place.inside.number in
    c.is_some.ensures ∙ ap is_some
    (c.target_under.ensures ∙ ap (λ items. under_number items n) c.as_slice.ensures.value)
    ∙ has_ref_listed (map document_of c.self.inside.documents.items) c.args.self.now
    (under_number c.self.inside.checked.references.plain.items) n c.args.place c.self.view_is c.place.view_is
    c.self.invariant.clear c.self.invariant.plain
