use Rattle.std.proofs.Common.{subst, ◌∙◌}
use Rattle.js_bundle.specs.Adding.{IsTaken}
use Rattle.js_bundle.specs.Seen.{document_of}
use Rattle.js_bundle.proofs.Checking.DocumentsAdded.{added}
use Rattle.js_bundle.proofs.bundle.Bundle.add.Goals as goal

pub returns-clause-ok : goal.returns-clause-ok
returns-clause-ok c =
    added c.self.inside.documents.items c.args.uri.now c.args.bytes.now c.in_ok-document.document c.args.self.now
    c.append.new.documents.items c.self.view_is c.in_default.ensures.ok
    (subst (λ n. IsTaken n c.args.uri.now c.args.bytes.now (document_of c.in_ok-document.document))
    (c.len.ensures ∙ c.self.inside.documents.ok.0) c.in_ok-document.ensures.ok)
