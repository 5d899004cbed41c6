use Rattle.std.proofs.Common.{subst}
use Rattle.js_output.specs.Outcome.{OutcomeWithin}
use Rattle.jschema_c.specs.Run.{TellsOutcome}
use Rattle.jschema_c.proofs.laws.check_is_run.Goals as goal

pub returns : goal.returns
returns c = λ documents uri number s after instance format format_number answered opened numbered checks.
    subst (λ l. TellsOutcome (OutcomeWithin l documents uri format instance) answered after.said)
    (c.opened_is_ready.ensures.limits documents uri number s opened)
    (c.ready_check_is_run.ensures documents uri number s after instance format format_number answered
    (c.opened_is_ready.ensures.ready documents uri number s opened) numbered checks)
