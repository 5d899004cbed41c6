use Rattle.js_eval.proofs.Collected.{verdict_collected, tree_collected, rows_collected}
use Rattle.js_eval.proofs.laws.walks_are_collected.Goals as goal

pub returns-clause-verdict : goal.returns-clause-verdict
returns-clause-verdict c = verdict_collected

pub returns-clause-tree : goal.returns-clause-tree
returns-clause-tree c = tree_collected

pub returns-clause-rows : goal.returns-clause-rows
returns-clause-rows c = rows_collected
