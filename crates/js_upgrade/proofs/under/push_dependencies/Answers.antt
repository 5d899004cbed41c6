use Rattle.std.proofs.Common.{◌∷◌, IfOk, sym, ap, ◌∙◌, subst}
use Rattle.js_doc.specs.Members.{get}
use Rattle.js_doc.specs.Seen.{value_of}
use Rattle.js_doc.proofs.PartLists.{member_list-members}
use Rattle.js_upgrade.specs.Moved.{dependencies_under, dependent_under}
use Rattle.js_upgrade.specs.code.Pushed.{IsPushed}
use Rattle.js_upgrade.proofs.under.push_dependencies.Goals as goal

pub returns-in-Some : goal.returns-in-Some
returns-in-Some c =
    let ms = c.in-Members.members in
    let name = c.in-Some.name.now in
    let is = ap (dependencies_under (value_of c.args.value.now)) c.in-Some.ensures.cases.0
    ∙ ap (λ v. dependencies_under v (name ∷ c.in-Some.field-0-1.now)) (ap value_of c.in-Members.is)
    ∙ ap (λ ns. dependent_under (get name ns)) (member_list-members ms)
    ∙ sym (ap dependent_under (c.get.ensures ∙ ap (λ k. get k ms) c.as_str.ensures)) in
    subst (λ o. IfOk c.push_dependent.result (IsPushed c.args.out.now c.push_dependent.new.out o)) (sym is)
    c.push_dependent.ensures
