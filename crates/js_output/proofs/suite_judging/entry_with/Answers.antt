use Rattle.std.proofs.Common.{◌≡◌, ◌∙◌, IfOk, IfErr, OnOk, subst}
use Rattle.js_doc.specs.Seen.{value_of}
use Rattle.js_output.specs.Cause.{MayGoOn, FailsBy}
use Rattle.js_output.specs.Entry.{IsEntry}
use Rattle.js_output.specs.Suite.{causes_with, documents_with}
use Rattle.js_output.proofs.suite_judging.entry_with.Goals as goal

pub returns-clause-schemas : goal.returns-clause-schemas
returns-clause-schemas c =
    subst (λ uri. IfOk c.entry_at.result (λ e. e.schemas ≡ documents_with c.args.schemas.now uri
    (value_of c.args.schema.now))) (c.as_str.ensures.value ∙ c.in_ok-uri.ensures) c.entry_at.ensures.schemas

pub returns-clause-entry : goal.returns-clause-entry
returns-clause-entry c = subst (λ uri. IfOk c.entry_at.result (λ e. IsEntry e.schemas uri e))
    (c.as_str.ensures.value ∙ c.in_ok-uri.ensures) c.entry_at.ensures.entry

pub returns-clause-clear : goal.returns-clause-clear
returns-clause-clear c =
    subst (λ uri. OnOk c.entry_at.result (MayGoOn (causes_with c.args.schemas.now uri
    (value_of c.args.schema.now)))) (c.as_str.ensures.value ∙ c.in_ok-uri.ensures) c.entry_at.ensures.clear

pub returns-clause-err : goal.returns-clause-err
returns-clause-err c =
    subst (λ uri. IfErr c.entry_at.result (FailsBy (causes_with c.args.schemas.now uri
    (value_of c.args.schema.now)))) (c.as_str.ensures.value ∙ c.in_ok-uri.ensures) c.entry_at.ensures.err
