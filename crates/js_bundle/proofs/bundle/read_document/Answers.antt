use Rattle.std.proofs.lemmas.Result.{err_from_is_err_and}
use Rattle.js_bundle.proofs.Checking.DocumentsAdded.{refused_by_uri, unread_refused}
use Rattle.js_bundle.proofs.bundle.read_document.Goals as goal

pub returns-in_err-uri-clause-err : goal.returns-in_err-uri-clause-err
returns-in_err-uri-clause-err c =
    let p = err_from_is_err_and c.from_residual.result c.from_residual.ensures.1 in
    rw (p.1, p.2) (refused_by_uri c.args.earlier c.args.uri.now c.args.bytes.now c.in_err-uri.field-0.0
    c.in_err-uri.ensures.err)

pub returns-in-Err-clause-err : goal.returns-in-Err-clause-err
returns-in-Err-clause-err c =
    let u = c.in_ok-uri.ensures.ok in
    unread_refused c.args.earlier c.args.uri.now c.args.bytes.now c.in_ok-uri.uri c.in-Err.fault c.unread.result
    c.unread.ensures u.room u.short u.is c.in-Err.ensures.err
