use Rattle.std.proofs.Common.{◌∙◌}
use Rattle.js_command.proofs.Holding.{holds_all}
use Rattle.js_command.proofs.KeptDocuments.{taken_more}
use Rattle.js_command.proofs.documents.take_documents.Goals as goal

-- one more
pub loop-document-preserved : goal.loop-document-preserved
loop-document-preserved g c =
    let (so_far, decides, same) = c.loop-document.invariant in
    let (more, rest) = taken_more (g.F.Files.contents c.args.files.now) (g.F.Files.contents c.loop-document.files)
    c.args.documents.now c.loop-document.document-index _ c.in_ok-text.text.items c.as_slice.result.now
    c.loop-document.taken.bundle c.add.new.self.bundle c.loop-document.taken.refused c.add.new.self.refused
    c.loop-document-test.true same c.in_ok-text.ensures.bytes c.in_ok-text.ensures.fits c.as_slice.ensures.value
    so_far decides c.add.ensures in
    (more, rest, c.in_ok-text.ensures.stays ∙ same)

-- no document is left
pub returns-clause-taken : goal.returns-clause-taken
returns-clause-taken g c =
    let ((texts, holds, kept), decides, same) = c.loop-document.invariant in (
      texts,
      holds_all (g.F.Files.contents c.args.files.now) c.args.documents.now c.loop-document.document-index texts
          c.loop-document-test.false holds,
      kept,
    )
