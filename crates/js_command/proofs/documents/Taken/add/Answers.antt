use Rattle.std.proofs.Common.{[], ◌∷◌, ◌++◌, sym, subst}
use Rattle.js_command.specs.code.Taken.{AreKept}
use Rattle.js_command.proofs.KeptDocuments.{kept_past}
use Rattle.js_command.proofs.documents.Taken.add.Goals as goal

pub returns-in-Some : goal.returns-in-Some
returns-in-Some c = λ texts kept.
    let held = c.args.self.now.bundle in
    subst (AreKept (texts ++ (c.args.uri.now, c.args.text.now) ∷ []) held) (sym c.in-Some.is)
    (kept_past texts held c.args.uri.now c.args.text.now _ (subst (AreKept texts held) c.in-Some.is kept))
