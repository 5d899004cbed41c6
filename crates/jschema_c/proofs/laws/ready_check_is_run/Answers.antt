use Rattle.jschema_c.proofs.Checking.{check_tells}
use Rattle.jschema_c.proofs.laws.ready_check_is_run.Goals as goal

pub returns : goal.returns
returns c = λ documents uri number s after instance format format_number answered ready numbered checks.
    check_tells documents uri number s ready instance format format_number numbered after answered checks
