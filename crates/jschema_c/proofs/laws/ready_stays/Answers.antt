use Rattle.std.proofs.Common.{ap}
use Rattle.jschema_c.specs.Session.{finished_in}
use Rattle.jschema_c.proofs.Staying.{ready_entered, ready_still}
use Rattle.jschema_c.proofs.laws.ready_stays.Goals as goal

pub returns-clause-checks : goal.returns-clause-checks
returns-clause-checks c = λ documents uri number s after entry instance format answered ready call.
    ready_still documents uri number s ready after (ap finished_in call.1.0) call.1.1.entries

pub returns-clause-lists : goal.returns-clause-lists
returns-clause-lists c = λ documents uri number s after answered ready call.
    ready_still documents uri number s ready after (ap finished_in call.1.0) call.1.1.entries

pub returns-clause-enters : goal.returns-clause-enters
returns-clause-enters c = λ documents uri number s after other old new answered ready call.
    ready_entered documents uri number s ready after other old new answered call

pub returns-clause-shares : goal.returns-clause-shares
returns-clause-shares c = λ documents uri number s shared ready is.
    ready_still documents uri number s ready shared is.schemas is.entries

pub returns-clause-limits : goal.returns-clause-limits
returns-clause-limits c = λ documents uri number s after applications nodes answered ready call.
    ready_still documents uri number s ready after (ap finished_in call.1.1.0) call.1.1.1
