use Rattle.js_bundle.proofs.Checking.OneName.{one_resource}
use Rattle.js_bundle.proofs.laws.a_uri_names_one_resource.Goals as goal

pub returns : goal.returns
returns c = one_resource
