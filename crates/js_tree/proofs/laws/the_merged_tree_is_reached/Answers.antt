use Rattle.js_tree.proofs.MergedLaws.{merged_is_reached, merged_is_normal}
use Rattle.js_tree.proofs.laws.the_merged_tree_is_reached.Goals as goal

pub returns-clause-reached : goal.returns-clause-reached
returns-clause-reached c = λ t. merged_is_reached t

pub returns-clause-normal : goal.returns-clause-normal
returns-clause-normal c = λ t. merged_is_normal t
