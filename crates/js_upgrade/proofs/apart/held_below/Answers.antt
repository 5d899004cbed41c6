use Rattle.std.proofs.Common.{sym, ap, ◌∙◌}
use Rattle.js_doc.specs.Seen.{value_of}
use Rattle.js_doc.proofs.PartLists.{member_list-members}
use Rattle.js_upgrade.specs.Moved.{TokenStep, keyword_step, step}
use Rattle.js_upgrade.specs.Upgrade.{own_dialect}
use Rattle.js_upgrade.specs.declared.holding.SchemaHolding.TheVariants.{One, OneOrListed}
use Rattle.js_upgrade.proofs.apart.held_below.Goals as goal

pub returns-in-One : goal.returns-in-One
returns-in-One c part rest =
    let d = c.args.held.dialect in
    let v = value_of c.args.value.now in
    let token = c.args.token.now in
    let is = ap (λ h. step h d v token part rest) c.in-One.is
    ∙ ap (λ w. step One d w token part rest) (ap value_of c.in-Members.is)
    ∙ ap (λ ns. keyword_step (own_dialect d ns) ns token part rest) (member_list-members c.in-Members.siblings) in
    let made = c.held_by_keyword.ensures in (
      made.holding part rest ∙ ap (λ (s : TokenStep). s.holding) (sym is),
      made.dialect part rest ∙ ap (λ (s : TokenStep). s.dialect) (sym is),
    )

pub returns-in-OneOrListed : goal.returns-in-OneOrListed
returns-in-OneOrListed c part rest =
    let d = c.args.held.dialect in
    let v = value_of c.args.value.now in
    let token = c.args.token.now in
    let is = ap (λ h. step h d v token part rest) c.in-OneOrListed.is
    ∙ ap (λ w. step OneOrListed d w token part rest) (ap value_of c.in-Members.is)
    ∙ ap (λ ns. keyword_step (own_dialect d ns) ns token part rest) (member_list-members c.in-Members.siblings) in
    let made = c.held_by_keyword-in-OneOrListed.ensures in (
      made.holding part rest ∙ ap (λ (s : TokenStep). s.holding) (sym is),
      made.dialect part rest ∙ ap (λ (s : TokenStep). s.dialect) (sym is),
    )
