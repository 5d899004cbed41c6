use Rattle.std.proofs.Common.{map, ap, ◌∙◌}
use Rattle.js_bundle.specs.code.PlaceNumbers.{under_number}
use Rattle.js_bundle.specs.Seen.{document_of}
use Rattle.js_bundle.proofs.Finding.ListedUnderNumber.{target_is, target_missing}
use Rattle.js_bundle.proofs.schemas.Schemas.target.Goals as goal

pub returns-in-Some : goal.returns-in-Some
returns-in-Some c =
    let docs = map document_of c.self.inside.documents.items in
    let n = c.place.inside.number in
    target_is docs c.args.self.now (under_number c.self.inside.checked.references.plain.items) n c.args.place
    c.in-Some.number c.self.view_is c.place.view_is c.self.invariant.plain
    (c.in-Some.ensures ∙ ap (λ items. under_number items n) c.as_slice.ensures.value)

pub returns-in-None : goal.returns-in-None
returns-in-None c =
    let docs = map document_of c.self.inside.documents.items in
    let n = c.place.inside.number in
    absurd (target_missing docs c.args.self.now (under_number c.self.inside.checked.references.plain.items) n
    c.args.place
    c.self.view_is c.place.view_is c.self.invariant.clear c.self.invariant.plain c.requires
    (c.in-None.ensures ∙ ap (λ items. under_number items n) c.as_slice.ensures.value))
