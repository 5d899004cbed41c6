use Rattle.std.proofs.Common.{◌≡◌}
use Rattle.js_command.proofs.FileFaults.{RestDecides}
use Rattle.js_command.proofs.KeptDocuments.{TakenSoFar}
use Rattle.js_command.proofs.documents.take_documents.Given as goal

abbrev pub invariant-loop-document : goal.invariant-loop-document
invariant-loop-document g l =
    TakenSoFar (g.F.Files.contents l.initial.files) l.documents l.document-index l.taken.bundle l.taken.refused
    × RestDecides (g.F.Files.contents l.initial.files) l.documents l.document-index
    × (g.F.Files.contents l.files ≡ g.F.Files.contents l.initial.files)
