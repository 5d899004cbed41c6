use Rattle.js_tree.proofs.MergedLaws.{normal_end_of_three}
use Rattle.js_tree.proofs.laws.normal_ends_of_three_are_the_merged_tree.Goals as goal

pub returns : goal.returns
returns c = λ t u r n. normal_end_of_three t u r n
