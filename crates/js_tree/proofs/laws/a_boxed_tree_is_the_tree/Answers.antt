use Rattle.js_tree.proofs.WholeTreeCollected.{boxed_held}
use Rattle.js_tree.proofs.laws.a_boxed_tree_is_the_tree.Goals as goal

pub returns : goal.returns
returns c = boxed_held
