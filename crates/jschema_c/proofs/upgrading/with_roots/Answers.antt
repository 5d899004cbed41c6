use Rattle.std.proofs.Common.{◌≡◌, [], ◌++◌, map, drop, ap, sym, ◌∙◌}
use Rattle.std.proofs.lemmas.List.{append-nil, nil_from_length}
use Rattle.js_doc.specs.Seen.{value_of}
use Rattle.js_bundle.specs.Seen.{document_of}
use Rattle.jschema_c.specs.Upgrading.{with_roots}
use Rattle.jschema_c.proofs.UpgradedRoots.{none_left}
use Rattle.jschema_c.proofs.upgrading.with_roots.Goals as goal

pub returns : goal.returns
returns c =
    let l = c.loop-root in
    let left : l.root-iterator.rest.items ≡ [] = nil_from_length _ (sym l.root-iterator.rest.ok.0
    ∙ c.in-None.ensures.steps.0) in
    let ds = map document_of (drop l.number c.args.documents.now) in
    sym (append-nil l.bundle)
    ∙ ap (λ x. l.bundle ++ x) (sym (none_left ds) ∙ ap (λ vs. with_roots ds (map value_of vs)) (sym left)) ∙ l.invariant
