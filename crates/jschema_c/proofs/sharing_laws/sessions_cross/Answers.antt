-- Schemas cross threads by their own law, and so does an `Arc` of them. The fact of `crosses` is of a parameter, which
-- says the same of the type.
use denote.Exit.{yes}
use denote.Struct.Field.{row_field}
use Rattle.std.proofs.Crossing.{Arc-send, Arc-sync}
use Rattle.std.specs.contracts.alloc.Global as Global
use Rattle.std.specs.contracts.impls.GlobalAllocator.TheImpl.{ghosts}
use Rattle.std.specs.contracts.vec.Vec as Vec
use Rattle.std_alloc.specs.contracts.arc.Arc as Arc
use Rattle.js_assert.proofs.Crossing.{Law, sending, sharing}
use Rattle.js_bundle.specs.contracts.bundle.Bundle as Bundle
use Rattle.js_bundle.specs.contracts.place.Place as Place
use Rattle.js_bundle.specs.contracts.schemas.Schemas as Schemas
use Rattle.js_eval.specs.contracts.evaluation.limits.Limits as Limits
use Rattle.jschema_c.specs.contracts.last_call.LastCall as LastCall
use Rattle.jschema_c.specs.contracts.session.Phase as Phase
use Rattle.jschema_c.specs.contracts.session.Session as Session
use Rattle.jschema_c.proofs.sharing_laws.sessions_cross.Goals as goal

-- what a session is made of
record SessionParts (L : Law) : Type 0 where
  bundle : L.Holds Bundle.the_row
  schemas : L.Holds (Arc.the_row Schemas.the_row Global.the_row ghosts)
  limits : L.Holds Limits.the_row
  entries : L.Holds (Vec.the_row Place.the_row Global.the_row ghosts)
  said : L.Holds LastCall.the_row

session : (L : Law) → SessionParts L → L.Holds Session.the_row
session L parts =
    let adding = L.field (row_field Bundle.the_row) parts.bundle in
    let finished = L.field (row_field (Arc.the_row Schemas.the_row Global.the_row ghosts)) parts.schemas in
    L.fields Session.the_type
    (L.variants Phase.enum ((adding, tt), ((finished, tt), tt)), (parts.limits, (parts.entries, (parts.said, tt))))

pub returns-clause-send : goal.returns-clause-send
returns-clause-send c =
    let parts : SessionParts sending = record {
      bundle = record { owned = c.crosses.ensures.send.owned; leaving = λ k. c.crosses.ensures.send.leaving yes };
      limits = record { owned = c.crosses-2.ensures.send.owned; leaving = λ k. c.crosses-2.ensures.send.leaving yes };
      schemas = Arc-send Schemas.the_row c.schemas_cross.ensures.send c.schemas_cross.ensures.sync;
      entries = record { owned = c.crosses-3.ensures.send.owned; leaving = λ k. c.crosses-3.ensures.send.leaving yes };
      said = record { owned = c.crosses-4.ensures.send.owned; leaving = λ k. c.crosses-4.ensures.send.leaving yes };
    } in session sending parts

pub returns-clause-sync : goal.returns-clause-sync
returns-clause-sync c =
    let parts : SessionParts sharing = record {
      bundle = record { shared = c.crosses.ensures.sync.shared };
      limits = record { shared = c.crosses-2.ensures.sync.shared };
      schemas = Arc-sync Schemas.the_row c.schemas_cross.ensures.send c.schemas_cross.ensures.sync;
      entries = record { shared = c.crosses-3.ensures.sync.shared };
      said = record { shared = c.crosses-4.ensures.sync.shared };
    } in session sharing parts
