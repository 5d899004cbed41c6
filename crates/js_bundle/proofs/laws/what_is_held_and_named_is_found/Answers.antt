use Rattle.js_bundle.proofs.Finding.EachFound.{each_is_found}
use Rattle.js_bundle.proofs.laws.what_is_held_and_named_is_found.Goals as goal

pub returns : goal.returns
returns c = each_is_found
