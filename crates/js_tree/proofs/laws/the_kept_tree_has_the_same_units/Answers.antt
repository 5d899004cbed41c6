use Rattle.js_tree.specs.OutputUnit.{noted}
use Rattle.js_tree.proofs.KeptTree.{units-kept}
use Rattle.js_tree.proofs.laws.the_kept_tree_has_the_same_units.Goals as goal

pub returns : goal.returns
returns c = λ t. units-kept noted t
