use Rattle.js_upgrade.proofs.MovedParts.{stands_where_moved}
use Rattle.js_upgrade.proofs.laws.what_is_moved_stands_there.Goals as goal

pub returns : goal.returns
returns c = stands_where_moved
