use Rattle.std.proofs.Common.{subst}
use Rattle.std.specs.Prelude.{IfErr, IfOk}
use Rattle.js_doc.specs.Seen.{value_of}
use Rattle.js_eval.specs.Walked.{LeadsTo, NoneStands, OnTooLarge}
use Rattle.js_eval.proofs.public_walks.walk_into.Goals as goal

pub returns-clause-ok : goal.returns-clause-ok
returns-clause-ok g c =
    subst (λ l. IfOk c.walk_into_within.result (LeadsTo l c.args.schemas.now c.args.place (value_of c.args.value.now)
    g.C.Collector.takes c.args.collector)) c.standard.ensures.is c.walk_into_within.ensures.ok

pub returns-clause-too_large : goal.returns-clause-too_large
returns-clause-too_large g c =
    subst (λ l. IfErr c.walk_into_within.result (λ e. OnTooLarge e.0
    (NoneStands l c.args.schemas.now c.args.place (value_of c.args.value.now))))
    c.standard.ensures.is c.walk_into_within.ensures.too_large
