use Rattle.std.proofs.Common.{◌≡◌, ◌∷◌, [], IfOk, sym, ap, ◌∙◌, subst, codes, rules}
use Rattle.js_doc.specs.Seen.{value_of}
use Rattle.js_upgrade.specs.Moved.{listed_under}
use Rattle.js_upgrade.specs.code.Pushed.{IsPushed}
use Rattle.js_upgrade.proofs.OneStep.{listed_some}
use Rattle.js_upgrade.proofs.under.push_items.Goals as goal

pub returns-else-is_empty : goal.returns-else-is_empty
returns-else-is_empty c =
    let some : c.in-List.items ≡ [] → ⊥ = search rules in
    let is = ap (listed_under (codes "prefixItems") (codes "items" ∷ [])) (ap value_of c.in-List.is)
    ∙ listed_some (codes "prefixItems") (codes "items" ∷ []) c.in-List.items some in
    subst (λ o. IfOk c.push_just.result (IsPushed c.args.out.now c.push_just.new.out o)) (sym is) c.push_just.ensures
