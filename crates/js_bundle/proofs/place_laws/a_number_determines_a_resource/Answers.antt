use Rattle.js_bundle.proofs.Indexing.ResourceNumbers.{numbers_resources}
use Rattle.js_bundle.proofs.place_laws.a_number_determines_a_resource.Goals as goal

pub returns : goal.returns
returns c = numbers_resources
