use Rattle.std.proofs.Common.{IfOk, sym, ap, ◌∙◌, subst}
use Rattle.js_doc.specs.Seen.{value_of}
use Rattle.js_doc.proofs.PartLists.{member_list-members}
use Rattle.js_upgrade.specs.Moved.{keyword_step, step}
use Rattle.js_upgrade.specs.Upgrade.{own_dialect}
use Rattle.js_upgrade.specs.code.Pushed.{IsStepped}
use Rattle.js_upgrade.specs.declared.holding.SchemaHolding.TheVariants.{One, OneOrListed}
use Rattle.js_upgrade.proofs.moving.push_step.Goals as goal

pub returns-in-One : goal.returns-in-One
returns-in-One c =
    let d = c.args.held.dialect in
    let v = value_of c.args.value.now in
    let token = c.args.token.now in
    let part = value_of c.args.part.now in
    let rest = c.args.rest.now in
    let is = ap (λ h. step h d v token part rest) c.in-One.is
    ∙ ap (λ w. step One d w token part rest) (ap value_of c.in-Members.is)
    ∙ ap (λ ns. keyword_step (own_dialect d ns) ns token part rest) (member_list-members c.in-Members.siblings) in
    let call = c.push_keyword in
    subst (λ s. IfOk call.result (IsStepped c.args.out.now call.new.out s)) (sym is) call.ensures

pub returns-in-OneOrListed : goal.returns-in-OneOrListed
returns-in-OneOrListed c =
    let d = c.args.held.dialect in
    let v = value_of c.args.value.now in
    let token = c.args.token.now in
    let part = value_of c.args.part.now in
    let rest = c.args.rest.now in
    let is = ap (λ h. step h d v token part rest) c.in-OneOrListed.is
    ∙ ap (λ w. step OneOrListed d w token part rest) (ap value_of c.in-Members.is)
    ∙ ap (λ ns. keyword_step (own_dialect d ns) ns token part rest) (member_list-members c.in-Members.siblings) in
    let call = c.push_keyword-in-OneOrListed in
    subst (λ s. IfOk call.result (IsStepped c.args.out.now call.new.out s)) (sym is) call.ensures
