use Rattle.js_upgrade_cli.proofs.Putting.{put_all_documents, put_more}
use Rattle.js_upgrade_cli.proofs.outputs.write_into.Goals as goal

pub loop-number-preserved : goal.loop-number-preserved
loop-number-preserved g c =
    put_more c.args.path.now c.args.files.now c.args.documents.now c.loop-number.number _
    c.index-documents-number.result (g.P.Folder.written c.args.folder.now) (g.P.Folder.written c.loop-number.folder)
    (g.P.Folder.written c.put_one.new.folder) c.loop-number-test.true c.if-documents-number.false
    c.index-documents-number.is c.loop-number.invariant c.in-Ok.ensures.ok

-- no document is left
pub returns-then-documents-number-clause-ok : goal.returns-then-documents-number-clause-ok
returns-then-documents-number-clause-ok g c =
    put_all_documents c.args.path.now c.args.files.now c.args.documents.now c.loop-number.number
    (g.P.Folder.written c.args.folder.now) (g.P.Folder.written c.loop-number.folder) c.if-documents-number.true
    c.loop-number.invariant
