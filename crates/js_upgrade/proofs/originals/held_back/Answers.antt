use Rattle.std.proofs.Common.{IfOk, sym, ap, ◌∙◌, subst}
use Rattle.js_doc.specs.Seen.{value_of}
use Rattle.js_doc.specs.declared.doc.Doc.TheVariants as Doc
use Rattle.js_doc.proofs.PartLists.{member_list-members}
use Rattle.js_upgrade.specs.Originals.{held_back, keyword_back}
use Rattle.js_upgrade.specs.Upgrade.{own_dialect}
use Rattle.js_upgrade.specs.code.Back.{IsStepBack}
use Rattle.js_upgrade.specs.declared.holding.SchemaHolding.TheVariants.{One, OneOrListed}
use Rattle.js_upgrade.proofs.originals.held_back.Goals as goal

pub returns-in-One : goal.returns-in-One
returns-in-One c =
    let d = c.args.dialect in
    let v = value_of c.args.value.now in
    let token = c.args.token.now in
    let is = ap value_of c.in-Members.is in
    let same = ap (λ h. held_back h d v token) c.in-One.is
    ∙ ap (λ w. held_back One d w token) is
    ∙ ap (λ ns. keyword_back (own_dialect d ns) ns (value_of (Doc.Members c.in-Members.siblings)) token)
    (member_list-members c.in-Members.siblings)
    ∙ ap (λ w. keyword_back (own_dialect d c.in-Members.siblings) c.in-Members.siblings w token) (sym is) in
    let call = c.keyword_back in
    subst (λ s. IfOk call.result (IsStepBack c.args.out.now call.new.out s)) (sym same) call.ensures

pub returns-in-OneOrListed : goal.returns-in-OneOrListed
returns-in-OneOrListed c =
    let d = c.args.dialect in
    let v = value_of c.args.value.now in
    let token = c.args.token.now in
    let is = ap value_of c.in-Members.is in
    let same = ap (λ h. held_back h d v token) c.in-OneOrListed.is
    ∙ ap (λ w. held_back OneOrListed d w token) is
    ∙ ap (λ ns. keyword_back (own_dialect d ns) ns (value_of (Doc.Members c.in-Members.siblings)) token)
    (member_list-members c.in-Members.siblings)
    ∙ ap (λ w. keyword_back (own_dialect d c.in-Members.siblings) c.in-Members.siblings w token) (sym is) in
    let call = c.keyword_back-in-OneOrListed in
    subst (λ s. IfOk call.result (IsStepBack c.args.out.now call.new.out s)) (sym same) call.ensures
