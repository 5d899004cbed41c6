use Rattle.std.proofs.Common.{Some, None, map, slice_get, option_and_then, ap, ◌∙◌}
use Rattle.js_bundle.specs.code.Index.{number_of_key}
use Rattle.js_bundle.specs.Seen.{document_of}
use Rattle.js_bundle.proofs.Finding.ResourceTableRead.{anchored_in}
use Rattle.js_bundle.proofs.schemas.Schemas.anchor_in.Goals as goal

pub returns-in-Some : goal.returns-in-Some
returns-in-Some c =
    anchored_in (map document_of c.self.inside.documents.items) c.args.self.now
    c.self.inside.checked.resources.anchors.items c.args.name.now c.args.resource
    (Some c.in-Some.number) c.self.view_is
    c.self.invariant.resources.anchors (c.in-Some.ensures ∙ ap (λ anchors. option_and_then
    (λ names. number_of_key names c.args.name.now) (slice_get anchors c.args.resource)) c.as_slice.ensures.value)

pub returns-in-None : goal.returns-in-None
returns-in-None c =
    anchored_in (map document_of c.self.inside.documents.items) c.args.self.now
    c.self.inside.checked.resources.anchors.items c.args.name.now c.args.resource None c.self.view_is
    c.self.invariant.resources.anchors (c.in-None.ensures ∙ ap (λ anchors. option_and_then
    (λ names. number_of_key names c.args.name.now) (slice_get anchors c.args.resource)) c.as_slice.ensures.value)
