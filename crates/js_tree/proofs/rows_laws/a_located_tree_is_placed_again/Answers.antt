use Rattle.js_tree.proofs.RowsOfTrees.Placing.{placed_tree_again}
use Rattle.js_tree.proofs.rows_laws.a_located_tree_is_placed_again.Goals as goal

pub returns : goal.returns
returns c = λ t h. placed_tree_again t h
