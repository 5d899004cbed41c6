use Rattle.jschema_c.proofs.Opening.{opened, opened_limits}
use Rattle.jschema_c.proofs.laws.opened_is_ready.Goals as goal

pub returns-clause-ready : goal.returns-clause-ready
returns-clause-ready c = λ documents uri number s is. opened documents uri number s is

pub returns-clause-limits : goal.returns-clause-limits
returns-clause-limits c = λ documents uri number s is. opened_limits documents uri number s is
