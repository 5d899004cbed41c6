use Rattle.js_tree.proofs.RowsOfTrees.SilentLeaves.{leaves_nothing}
use Rattle.js_tree.proofs.rows_laws.a_silent_leaf_leaves_nothing.Goals as goal

pub returns : goal.returns
returns c = leaves_nothing
