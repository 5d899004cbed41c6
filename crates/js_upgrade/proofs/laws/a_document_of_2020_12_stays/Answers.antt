use Rattle.js_upgrade.proofs.Staying.{current_stays}
use Rattle.js_upgrade.proofs.laws.a_document_of_2020_12_stays.Goals as goal

pub returns : goal.returns
returns c = current_stays
