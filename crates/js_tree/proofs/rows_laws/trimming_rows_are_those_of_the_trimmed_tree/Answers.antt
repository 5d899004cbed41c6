use Rattle.js_tree.proofs.RowsOfTrees.TrimmedRowsCollected.{trimmed_held}
use Rattle.js_tree.proofs.rows_laws.trimming_rows_are_those_of_the_trimmed_tree.Goals as goal

pub returns : goal.returns
returns c = λ t c d l h p. record { trimmed_are = trimmed_held t c d h p; located = l }
