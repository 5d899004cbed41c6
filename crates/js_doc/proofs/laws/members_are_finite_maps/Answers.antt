use Rattle.js_doc.proofs.FiniteMaps.{same_map}
use Rattle.js_doc.proofs.laws.members_are_finite_maps.Goals as goal

pub returns : goal.returns
returns c = same_map
