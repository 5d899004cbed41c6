use Rattle.js_tree.proofs.MergedLaws.{step_of_three_leaves_fewer}
use Rattle.js_tree.proofs.laws.a_step_of_three_leaves_fewer_nodes.Goals as goal

pub returns : goal.returns
returns c = λ t u s. step_of_three_leaves_fewer t u s
