use Rattle.js_eval.proofs.NothingStandsIn.{all_found}
use Rattle.js_eval.proofs.laws.nothing_stands_in.Goals as goal

pub returns : goal.returns
returns c = all_found c.what_is_held_and_named_is_found.ensures
