use Rattle.std.proofs.Common.{map, nat_eq, is_some, ap, ◌∙◌}
use Rattle.indexmap.specs.IndexMap.{get}
use Rattle.js_bundle.specs.Seen.{document_of}
use Rattle.js_bundle.proofs.Finding.DynamicTargets.{has_dynamic_ref_listed}
use Rattle.js_bundle.proofs.schemas.Schemas.has_dynamic_ref.Goals as goal

pub returns : goal.returns
returns c =
    let n = c.place.inside.number in
    c.is_some.ensures ∙ ap is_some c.reference_under.ensures
    ∙ has_dynamic_ref_listed (map document_of c.self.inside.documents.items) c.args.self.now (get nat_eq
    c.self.inside.checked.references.dynamic) n c.args.place c.self.view_is c.place.view_is c.self.invariant.clear
    c.self.invariant.dynamic
