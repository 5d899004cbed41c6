use Rattle.js_upgrade.proofs.NamesApart.{names_plain}
use Rattle.js_upgrade.proofs.laws.names_are_plain.Goals as goal

pub returns : goal.returns
returns c = names_plain
