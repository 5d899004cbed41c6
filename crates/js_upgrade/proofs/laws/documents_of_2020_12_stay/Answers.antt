use Rattle.js_upgrade.proofs.StayingTogether.{all_current_stay}
use Rattle.js_upgrade.proofs.laws.documents_of_2020_12_stay.Goals as goal

pub returns : goal.returns
returns c = all_current_stay
