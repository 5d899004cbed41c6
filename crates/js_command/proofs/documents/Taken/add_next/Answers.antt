use Rattle.std.proofs.Common.{[], ◌∷◌, ◌++◌, sym, subst}
use Rattle.js_command.specs.code.Taken.{AreKept}
use Rattle.js_command.proofs.KeptDocuments.{kept_more, kept_refused}
use Rattle.js_command.proofs.documents.Taken.add_next.Goals as goal

pub returns-in-Ok : goal.returns-in-Ok
returns-in-Ok c = λ texts kept.
    let held = c.args.self.now.bundle in
    let new = c.add_document_text.new.bundle in
    subst (AreKept (texts ++ (c.args.uri.now, c.args.text.now) ∷ []) new) (sym c.requires)
    (kept_more texts held c.args.uri.now c.args.text.now new (subst (AreKept texts held) c.requires kept)
    c.in-Ok.ensures.ok)

pub returns-in-Err : goal.returns-in-Err
returns-in-Err c = λ texts kept.
    let held = c.args.self.now.bundle in
    kept_refused texts held c.args.uri.now c.args.text.now c.in-Err.fault
    (subst (AreKept texts held) c.requires kept) c.in-Err.ensures.err
