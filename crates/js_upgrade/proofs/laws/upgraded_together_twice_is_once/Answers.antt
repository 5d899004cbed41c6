use Rattle.js_upgrade.proofs.AgainTogether.{all_twice}
use Rattle.js_upgrade.proofs.laws.upgraded_together_twice_is_once.Goals as goal

pub returns : goal.returns
returns c = all_twice
