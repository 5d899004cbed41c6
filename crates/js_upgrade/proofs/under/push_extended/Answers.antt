use Rattle.std.proofs.Common.{◌≡◌, ◌∷◌, [], IfOk, sym, ap, ◌∙◌, subst, codes, rules}
use Rattle.js_doc.specs.Seen.{value_of}
use Rattle.js_upgrade.specs.Moved.{first_item, listed_under}
use Rattle.js_upgrade.specs.code.Pushed.{IsPushed}
use Rattle.js_upgrade.proofs.OneStep.{listed_some}
use Rattle.js_upgrade.proofs.under.push_extended.Goals as goal

pub returns-else-is_empty : goal.returns-else-is_empty
returns-else-is_empty c =
    let some : c.in-List.items ≡ [] → ⊥ = search rules in
    let is = ap (listed_under (codes "allOf") (codes "allOf" ∷ first_item)) (ap value_of c.in-List.is)
    ∙ listed_some (codes "allOf") (codes "allOf" ∷ first_item) c.in-List.items some in
    subst (λ o. IfOk c.push_just.result (IsPushed c.args.out.now c.push_just.new.out o)) (sym is) c.push_just.ensures
