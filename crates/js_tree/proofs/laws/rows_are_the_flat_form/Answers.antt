use Rattle.js_tree.proofs.FlatFormCollected.{flat_held}
use Rattle.js_tree.proofs.laws.rows_are_the_flat_form.Goals as goal

pub returns : goal.returns
returns c = flat_held
