use Rattle.js_tree.proofs.MergedLaws.{normal_of_three-merged}
use Rattle.js_tree.proofs.laws.a_tree_normal_under_three_is_its_merged_tree.Goals as goal

pub returns : goal.returns
returns c = λ t n. normal_of_three-merged t n
