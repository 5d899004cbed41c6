use mir.Syntax.{of_param}
use denote.Exit.{yes, unseen}
use denote.Param.Send.{sendable, Quiet-if}
use Rattle.std.proofs.Crossing.{Arc-send, Arc-sync}
use Rattle.js_bundle.specs.contracts.schemas.Schemas as Schemas
use Rattle.js_bundle.proofs.sharing_laws.handles_cross.Goals as goal

pub crosses-requires-send-T : goal.crosses-requires-send-T
crosses-requires-send-T c κs =
    let s = Arc-send Schemas.the_row c.schemas_cross.ensures.send c.schemas_cross.ensures.sync in
    record { owned = s.owned; leaving = λ k. Quiet-if (k (of_param 0)) _ unseen (s.leaving yes) (λ x w. tt) }

pub crosses-requires-sync-T : goal.crosses-requires-sync-T
crosses-requires-sync-T c κs =
    search (sendable, Arc-sync Schemas.the_row c.schemas_cross.ensures.send c.schemas_cross.ensures.sync)
