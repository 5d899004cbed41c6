use Rattle.std.proofs.lemmas.Result.{err_from_is_err_and}
use Rattle.js_upgrade_cli.specs.code.Seen.{upgrade_request_seen}
use Rattle.js_upgrade_cli.proofs.Ending.{done_by, stops_before}
use Rattle.js_upgrade_cli.proofs.program.perform.Goals as goal

-- nothing was written yet
pub returns-in_err-documents-clause-stop : goal.returns-in_err-documents-clause-stop
returns-in_err-documents-clause-stop g c =
    let e = c.in_err-documents.field-0.0 in
    let p = err_from_is_err_and c.from_residual.result c.from_residual.ensures.1 in
    rw (p.1, p.2) (stops_before (g.F.Files.contents c.args.files.now) (upgrade_request_seen c.args.request.now)
    (g.W.Write.contents c.args.out.now.device) c.args.out.now.failed (g.P.Folder.written c.args.folder.now)
    e.document e.fault c.in_err-documents.ensures.stop)

pub returns-clause-done : goal.returns-clause-done
returns-clause-done g c =
    done_by (g.F.Files.contents c.args.files.now) (upgrade_request_seen c.args.request.now) c.as_slice.result.now
    c.in_ok-documents.documents.items (g.W.Write.contents c.args.out.now.device)
    (g.W.Write.contents c.write_documents.new.out.device) (g.P.Folder.written c.args.folder.now)
    (g.P.Folder.written c.write_documents.new.folder) c.write_documents.result c.as_slice.ensures.value
    c.in_ok-documents.ensures.ok c.write_documents.ensures.ok
