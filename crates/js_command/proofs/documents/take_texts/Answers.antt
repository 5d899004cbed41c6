use Rattle.std.proofs.Common.{[], ◌∷◌, subst}
use Rattle.std.proofs.lemmas.Result.{err_from_is_err_and}
use Rattle.js_output.specs.Device.{IsLeft}
use Rattle.js_command.specs.Files.{IsFileFault}
use Rattle.js_command.specs.Words.{files_of, pairs_seen}
use Rattle.js_command.proofs.FileFaults.{fault_before, fault_last}
use Rattle.js_command.proofs.documents.take_texts.Goals as goal

-- a document's file isn't taken
pub returns-in_err-documents-clause-fault : goal.returns-in_err-documents-clause-fault
returns-in_err-documents-clause-fault g c =
    let p = err_from_is_err_and c.from_residual.result c.from_residual.ensures.1 in
    rw (p.1, p.2) (λ other. fault_before (g.F.Files.contents c.args.files.now)
    (files_of (pairs_seen c.args.documents.now))
    (c.args.file.now ∷ []) c.in_err-documents.field-0.0
    (c.in_err-documents.ensures.fault other))

-- they are, but the last file isn't
pub returns-in_err-judged-clause-fault : goal.returns-in_err-judged-clause-fault
returns-in_err-judged-clause-fault g c =
    let e = c.in_err-judged.field-0.0 in
    let (texts, holds, kept) = c.in_ok-documents.ensures.taken in
    let p = err_from_is_err_and c.from_residual-in_err-judged.result c.from_residual-in_err-judged.ensures.1 in
    rw (p.1, p.2) (λ other. fault_last (g.F.Files.contents c.args.files.now) (pairs_seen c.args.documents.now)
    texts c.args.file.now e holds
    (subst (λ h. IsFileFault (h c.args.file.now) e) c.in_ok-documents.ensures.stays c.in_err-judged.ensures.fault))

pub returns-clause-judged : goal.returns-clause-judged
returns-clause-judged g c = subst (λ h. IsLeft (h c.args.file.now) c.in_ok-judged.judged.items)
    c.in_ok-documents.ensures.stays c.in_ok-judged.ensures.bytes
