use Rattle.std.proofs.Common.{◌≡◌, ◌++◌, map, drop}
use Rattle.js_bundle.specs.Seen.{document_of}
use Rattle.js_bundle.proofs.schemas.copies.Given as goal

-- the copies, and then the rest, are all
abbrev pub invariant-loop-document : goal.invariant-loop-document
invariant-loop-document l = map document_of l.all.items ++ map document_of (drop l.document-index l.documents)
    ≡ map document_of l.documents
