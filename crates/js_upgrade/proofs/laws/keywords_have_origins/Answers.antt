use Rattle.js_upgrade.proofs.MovedParts.{each_has_its_origin}
use Rattle.js_upgrade.proofs.laws.keywords_have_origins.Goals as goal

pub returns : goal.returns
returns c = each_has_its_origin
