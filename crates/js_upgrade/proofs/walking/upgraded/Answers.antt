use Rattle.std.proofs.Common.{◌≡◌, IfOk, subst}
use Rattle.js_doc.specs.Seen.{value_of}
use Rattle.js_upgrade.proofs.Placing.{placed_nowhere}
use Rattle.js_upgrade.proofs.walking.upgraded.Goals as goal

pub returns : goal.returns
returns c =
    subst (λ v. IfOk c.placed.result (λ d. value_of d ≡ v))
    (placed_nowhere c.args.holding c.args.dialect (value_of c.args.value.now)) c.placed.ensures
