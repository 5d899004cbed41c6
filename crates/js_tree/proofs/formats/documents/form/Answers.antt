use Rattle.std.proofs.Common.{◌≡◌, ◌∙◌, ap, refl, subst, sym, Result, Ok, Err, IfOk}
use Rattle.js_doc.specs.Seen.{value_of}
use Rattle.js_doc.specs.declared.doc.Doc.{Doc}
use Rattle.js_doc.specs.declared.memory.Memory.{Memory}
use Rattle.js_tree.specs.Forest.{Rose}
use Rattle.js_tree.specs.Form.{form, shown, tree_of_format, verbose}
use Rattle.js_tree.specs.declared.formats.Format.{Format}
use Rattle.js_tree.specs.OutputUnit.{noted}
use Rattle.js_tree.specs.Result.{Normal, ResultTree, Run, kept, pruned}
use Rattle.js_tree.specs.declared.unit.Unit.{Unit}
use Rattle.js_tree.proofs.KeptTree.{run-normal}
use Rattle.js_tree.proofs.formats.documents.form.Goals as goal

-- the document of the kept tree is that of the end of each run that can't be continued
every_end : (made : Result Doc Memory) (t u : Rose Unit) → u ≡ kept t → IfOk made (λ doc. value_of doc ≡ verbose u)
    → IfOk made (λ doc. (end : Rose Unit) → Run t end → Normal end → value_of doc ≡ verbose end)
every_end (Ok doc) t u k e = λ end r n. e ∙ ap verbose (k ∙ sym (run-normal noted t end r n))
every_end (Err refused) t u k e = tt

form_of : (made : Result Doc Memory) (format : Format) (t u : ResultTree) → u ≡ tree_of_format format t
    → IfOk made (λ doc. value_of doc ≡ shown format u) → IfOk made (λ doc. value_of doc ≡ form format t)
form_of (Ok doc) format t u k e = e ∙ ap (shown format) k
form_of (Err refused) format t u k e = tt

pub returns-clause-form : goal.returns-clause-form
returns-clause-form c = form_of c.shown.result c.args.format c.args.tree c.tree_of-tree.result
    c.tree_of-tree.ensures c.shown.ensures

pub returns-clause-one_normal_form : goal.returns-clause-one_normal_form
returns-clause-one_normal_form c = λ e. every_end c.shown.result (pruned c.args.tree) (kept (pruned c.args.tree)) refl
    (subst (λ f. IfOk c.shown.result (λ doc. value_of doc ≡ form f c.args.tree)) e (returns-clause-form c))
