use Rattle.js_tree.proofs.MergedLaws.{step_of_three-merged}
use Rattle.js_tree.proofs.laws.a_step_of_three_leaves_the_merged_tree.Goals as goal

pub returns : goal.returns
returns c = λ t u s. step_of_three-merged t u s
