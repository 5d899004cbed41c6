use Rattle.js_output.proofs.BundleCauses.{AreTaken}
use Rattle.js_output.proofs.documents.bundled.Given as goal

-- what is held and what is left are all, and what is left decides
abbrev pub invariant-loop-document : goal.invariant-loop-document
invariant-loop-document l = AreTaken l.bundle l.document-index l.docs
