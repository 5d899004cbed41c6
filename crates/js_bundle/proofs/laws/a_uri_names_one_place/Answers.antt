use Rattle.js_bundle.proofs.Checking.OneName.{one_place}
use Rattle.js_bundle.proofs.laws.a_uri_names_one_place.Goals as goal

pub returns : goal.returns
returns c = one_place
