use Rattle.std.proofs.Common.{◌++◌, [], map, Some, ap, ◌∙◌, sym}
use Rattle.js_bundle.specs.code.StoredLocation.{stored_location}
use Rattle.js_bundle.specs.PlaceNumber.{place_at}
use Rattle.js_bundle.specs.Seen.{document_of}
use Rattle.js_bundle.proofs.Finding.CheckedPlaces.{checked_as}
use Rattle.js_bundle.proofs.Finding.LocationsLent.{in_one_piece, in_two_pieces}
use Rattle.js_bundle.proofs.schemas.Schemas.location_of.Goals as goal

pub returns-then-location : goal.returns-then-location
returns-then-location c =
    let documents = map document_of c.self.inside.documents.items in
    let location = c.index-location.result.now in
    let uri = c.resource.result.now in
    let place = place_at c.args.self.now c.args.place in
    let there =
    checked_as stored_location documents c.args.self.now c.self.inside.checked.locations.items
    c.place.inside.number c.args.place
    location c.self.view_is c.place.view_is c.self.invariant.locations c.requires c.index-location.ensures in
    in_two_pieces place location uri there c.resource.ensures c.if-location.true
    ∙ ap (λ t. Some (uri ++ t)) (sym c.as_str-text.ensures)

pub returns-else-location : goal.returns-else-location
returns-else-location c =
    let documents = map document_of c.self.inside.documents.items in
    let location = c.index-location.result.now in
    let place = place_at c.args.self.now c.args.place in
    let there =
    checked_as stored_location documents c.args.self.now c.self.inside.checked.locations.items
    c.place.inside.number c.args.place
    location c.self.view_is c.place.view_is c.self.invariant.locations c.requires c.index-location.ensures in
    in_one_piece place location there c.if-location.false ∙ ap (λ t. Some (t ++ [])) (sym c.as_str-text.ensures)
