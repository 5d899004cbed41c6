use Rattle.js_tree.proofs.RowsOfTrees.RelativeRowsCollected.{relative_held}
use Rattle.js_tree.proofs.rows_laws.relative_rows_are_those_of_the_tree.Goals as goal

pub returns : goal.returns
returns c = λ t c d l h p. record { rows_are = relative_held t c d h p; located = l }
