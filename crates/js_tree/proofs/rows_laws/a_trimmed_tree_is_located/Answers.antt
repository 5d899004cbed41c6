use Rattle.js_tree.proofs.RowsOfTrees.TrimmedRowsCollected.{tree_located}
use Rattle.js_tree.proofs.rows_laws.a_trimmed_tree_is_located.Goals as goal

pub returns : goal.returns
returns c = λ t h. tree_located t h
