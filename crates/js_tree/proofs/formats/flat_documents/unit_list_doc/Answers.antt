use Rattle.std.proofs.Common.{[], map, ap, ◌∙◌}
use Rattle.std.proofs.lemmas.Result.{IfOk-weaker}
use Rattle.js_tree.specs.FlatState.{noted_of}
use Rattle.js_tree.specs.Form.{node_value}
use Rattle.js_tree.specs.Result.{units}
use Rattle.js_tree.specs.FlatState.{row_of}
use Rattle.js_tree.proofs.FlatRows.{root_row}
use Rattle.js_tree.proofs.NodeTexts.{list_value}
use Rattle.js_tree.proofs.NotedRows.{noted_of-flat_form}
use Rattle.js_tree.proofs.formats.flat_documents.unit_list_doc.Goals as goal

pub returns : goal.returns
returns c =
    let rows = c.args.rows.now in
    let v = c.root.inside.valid in
    IfOk-weaker c.units_doc.result _ _
    (λ doc p t e.
    p ∙ (ap (λ us. list_value v (map (λ u. node_value u []) us)) (ap (map (λ unit. unit.now)) c.as_slice.ensures.value
    ∙ (c.in_ok-noted.ensures ∙ (ap noted_of e ∙ noted_of-flat_form t)))
    ∙ ap (λ u. list_value u.valid (map (λ u. node_value u []) (units t)))
    (c.root.view_is ∙ root_row row_of rows t c.index-rows-0.result e c.index-rows-0.is)))
    c.units_doc.ensures
