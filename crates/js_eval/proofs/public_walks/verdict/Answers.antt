use Rattle.std.proofs.Common.{subst}
use Rattle.std.specs.Prelude.{IfErr, IfOk}
use Rattle.js_doc.specs.Seen.{value_of}
use Rattle.js_eval.specs.Walked.{IsVerdict, NoneStands, OnTooLarge}
use Rattle.js_eval.proofs.public_walks.verdict.Goals as goal

pub returns-clause-ok : goal.returns-clause-ok
returns-clause-ok c =
    subst (λ l. IfOk c.verdict_within.result (IsVerdict l c.args.schemas.now c.args.place (value_of c.args.value.now)))
    c.standard.ensures.is c.verdict_within.ensures.ok

pub returns-clause-too_large : goal.returns-clause-too_large
returns-clause-too_large c =
    subst (λ l. IfErr c.verdict_within.result (λ e. OnTooLarge e
    (NoneStands l c.args.schemas.now c.args.place (value_of c.args.value.now))))
    c.standard.ensures.is c.verdict_within.ensures.too_large
