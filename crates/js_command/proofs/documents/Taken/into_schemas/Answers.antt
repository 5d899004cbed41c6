use Rattle.std.proofs.Common.{subst}
use Rattle.js_command.specs.code.Taken.{AreKept}
use Rattle.js_command.proofs.KeptDocuments.{finished_all, finished_refused}
use Rattle.js_command.proofs.documents.Taken.into_schemas.Goals as goal

pub returns-in-Some : goal.returns-in-Some
returns-in-Some c = λ texts kept.
    finished_refused texts c.args.self.bundle c.in-Some.fault
    (subst (AreKept texts c.args.self.bundle) c.in-Some.is kept)

pub returns-in-None : goal.returns-in-None
returns-in-None c = λ texts kept.
    finished_all texts c.args.self.bundle c.finish_bundle.result
    (subst (AreKept texts c.args.self.bundle) c.in-None.is kept) c.finish_bundle.ensures.ok
    c.finish_bundle.ensures.clear c.finish_bundle.ensures.err
