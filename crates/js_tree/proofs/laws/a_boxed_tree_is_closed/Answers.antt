use Rattle.js_tree.proofs.WholeTreeCollected.{boxed_closes_all}
use Rattle.js_tree.proofs.laws.a_boxed_tree_is_closed.Goals as goal

pub returns : goal.returns
returns c = boxed_closes_all
