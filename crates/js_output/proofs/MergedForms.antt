-- What is shown of rows: the form that the format has of the result.
use Rattle.std.proofs.Common.{◌≡◌, sym, ◌∙◌, ap}
use Rattle.js_tree.specs.Form.{form, verbose}
use Rattle.js_tree.specs.MergedResult.{merged}
use Rattle.js_tree.specs.Result.{ResultTree, kept, pruned}
use Rattle.js_tree.specs.declared.formats.Format.TheVariants.{Merged}
use Rattle.js_tree.proofs.MergedLaws.{merged-kept}

-- merging makes the same of what condensing leaves
pub merged_form : (t : ResultTree) → verbose (merged (kept (pruned t))) ≡ form Merged t
merged_form t = ap verbose (merged-kept (pruned t))

-- if it changes nothing of that, that is shown
pub unmerged_form : (t : ResultTree) → merged (kept (pruned t)) ≡ kept (pruned t)
    → verbose (kept (pruned t)) ≡ form Merged t
unmerged_form t e = ap verbose (sym e ∙ merged-kept (pruned t))
