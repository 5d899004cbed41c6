use Rattle.std.proofs.Common.{◌∙◌, subst}
use Rattle.js_doc.specs.Seen.{value_of}
use Rattle.js_upgrade.specs.Moved.{step}
use Rattle.js_upgrade.specs.code.Pushed.{IsStepped}
use Rattle.js_upgrade.proofs.KeptOn.{gone_on, stepped_on}
use Rattle.js_upgrade.proofs.apart.onward.Goals as goal

pub returns-in-Some : goal.returns-in-Some
returns-in-Some c =
    let v = value_of c.args.part.now in
    let s = step c.args.held.holding c.args.held.dialect (value_of c.args.value.now) c.args.token.now v
    c.args.rest.now in
    let made = subst (IsStepped _ _ s) c.in-Some.is c.in_ok-below.ensures in
    c.kept_on.ensures ∙ stepped_on s c.in-Some.below _ _ v c.args.rest.now made.0 made.1 made.2

pub returns : goal.returns
returns c =
    let v = value_of c.args.part.now in
    let rest = c.args.rest.now in
    let s = step c.args.held.holding c.args.held.dialect (value_of c.args.value.now) c.args.token.now v rest in
    let below = c.held_below.ensures v rest in
    c.kept_on-in-None.ensures
    ∙ gone_on s c.held_below.result v rest below.0 below.1
    (subst (IsStepped _ _ s) c.in-None.is c.in_ok-below.ensures)
