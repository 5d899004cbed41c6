use Rattle.js_upgrade.proofs.Again.{twice_is_once}
use Rattle.js_upgrade.proofs.laws.upgraded_twice_is_upgraded_once.Goals as goal

pub returns : goal.returns
returns c = twice_is_once
