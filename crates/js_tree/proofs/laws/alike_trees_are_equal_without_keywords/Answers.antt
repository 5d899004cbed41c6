use Rattle.js_tree.proofs.Earliest.{alike_decides}
use Rattle.js_tree.proofs.laws.alike_trees_are_equal_without_keywords.Goals as goal

pub returns : goal.returns
returns c = λ f g. alike_decides f g
