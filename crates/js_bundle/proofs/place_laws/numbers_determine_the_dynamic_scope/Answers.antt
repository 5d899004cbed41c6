use Rattle.js_bundle.proofs.Indexing.ResourceNumbers.{scope_by_numbers}
use Rattle.js_bundle.proofs.place_laws.numbers_determine_the_dynamic_scope.Goals as goal

pub returns : goal.returns
returns c = scope_by_numbers
