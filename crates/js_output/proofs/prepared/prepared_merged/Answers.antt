use Rattle.std.proofs.Common.{IfOk, ap, ◌∙◌, subst}
use Rattle.js_tree.specs.Form.{verbose}
use Rattle.js_tree.specs.Result.{kept, pruned}
use Rattle.js_output.specs.code.Prepared.{IsPrepared}
use Rattle.js_output.proofs.Recorded.{kept_normal}
use Rattle.js_output.proofs.MergedForms.{merged_form, unmerged_form}
use Rattle.js_output.proofs.prepared.prepared_merged.Goals as goal

pub returns-then-is_surely_merged-clause-shown : goal.returns-then-is_surely_merged-clause-shown
returns-then-is_surely_merged-clause-shown c = λ t rows.
    let same = c.is_surely_merged.ensures (kept (pruned t)) rows (kept_normal t) c.if-is_surely_merged.true in
    subst (λ value. IfOk c.with_room.result (λ s. IsPrepared s t.root.valid value)) (unmerged_form t same)
    (c.with_room.ensures.shown (kept (pruned t)) rows)

pub returns-clause-shown : goal.returns-clause-shown
returns-clause-shown c = λ t rows.
    let e = c.in_ok-tree.ensures (kept (pruned t)) rows in
    (ap (λ u. u.root.valid) e, ap verbose e ∙ merged_form t)
