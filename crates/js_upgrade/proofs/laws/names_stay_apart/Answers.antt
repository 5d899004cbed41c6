use Rattle.js_upgrade.proofs.NamesApart.{names_apart}
use Rattle.js_upgrade.proofs.laws.names_stay_apart.Goals as goal

pub returns : goal.returns
returns c = names_apart
