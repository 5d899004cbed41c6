use Rattle.std.proofs.Common.{map, nat_eq}
use Rattle.indexmap.specs.IndexMap.{get}
use Rattle.js_bundle.specs.Seen.{document_of}
use Rattle.js_bundle.proofs.Finding.DynamicTargets.{reference_is, target_place, leads, reference_missing}
use Rattle.js_bundle.proofs.schemas.Schemas.find_first_target.Goals as goal

pub scope_name-requires : goal.scope_name-requires
scope_name-requires c =
    target_place c.args.self.now c.args.place c.in-Some.reference
    (reference_is (map document_of c.self.inside.documents.items) c.args.self.now
    (get nat_eq c.self.inside.checked.references.dynamic) c.place.inside.number c.args.place c.in-Some.reference
    c.self.view_is c.place.view_is
    c.self.invariant.dynamic c.in-Some.ensures)

pub returns-in-Some : goal.returns-in-Some
returns-in-Some c =
    leads c.args.self.now c.args.place c.in-Some.reference _
    (reference_is (map document_of c.self.inside.documents.items) c.args.self.now
    (get nat_eq c.self.inside.checked.references.dynamic) c.place.inside.number c.args.place c.in-Some.reference
    c.self.view_is c.place.view_is
    c.self.invariant.dynamic c.in-Some.ensures) c.scope_name.ensures

pub returns-in-None : goal.returns-in-None
returns-in-None c =
    absurd (reference_missing (map document_of c.self.inside.documents.items) c.args.self.now (get nat_eq
    c.self.inside.checked.references.dynamic) c.place.inside.number c.args.place c.self.view_is c.place.view_is
    c.self.invariant.clear c.self.invariant.dynamic c.requires c.in-None.ensures)
