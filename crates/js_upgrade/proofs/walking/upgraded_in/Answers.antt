use Rattle.std.proofs.Common.{◌≡◌, IfOk, subst}
use Rattle.js_doc.specs.Seen.{value_of}
use Rattle.js_upgrade.specs.code.Table.{all_of}
use Rattle.js_upgrade.specs.declared.holding.SchemaHolding.TheVariants.{One}
use Rattle.js_upgrade.proofs.Placing.{placed_among}
use Rattle.js_upgrade.proofs.walking.upgraded_in.Goals as goal

pub returns : goal.returns
returns c =
    subst (λ v. IfOk c.placed.result (λ d. value_of d ≡ v))
    (placed_among (all_of c.args.scope.now.resources.now) One c.args.dialect c.args.scope.now.base.now
    (value_of c.args.schema.now)) c.placed.ensures
