use Rattle.std.proofs.Common.{ap, ◌∙◌}
use Rattle.std.proofs.lemmas.Result.{IfOk-weaker}
use Rattle.js_tree.specs.FlatState.{noted_of}
use Rattle.js_tree.proofs.NotedRows.{noted_of-flat_form}
use Rattle.js_tree.proofs.reducing.noted_rows.flat_units.Goals as goal

pub returns : goal.returns
returns c = IfOk-weaker c.noted_units.result _ _ (λ found p t e. p
    ∙ (ap noted_of (c.rows.ensures ∙ ap (λ s. s.rows) e) ∙ noted_of-flat_form t)) c.noted_units.ensures
