use Rattle.std.proofs.Common.{ap, ◌∙◌}
use Rattle.std.proofs.lemmas.Result.{IfOk-weaker}
use Rattle.js_tree.specs.Form.{flag}
use Rattle.js_tree.specs.FlatState.{row_of}
use Rattle.js_tree.proofs.FlatRows.{root_row}
use Rattle.js_tree.proofs.formats.flat_documents.flag_doc.Goals as goal

pub returns : goal.returns
returns c =
    IfOk-weaker c.flag.result _ _ (λ doc p t e. p ∙ ap (λ u. flag u.valid)
    (c.root.view_is ∙ root_row row_of c.args.rows.now t c.index-rows-0.result e c.index-rows-0.is)) c.flag.ensures
