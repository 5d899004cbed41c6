use Rattle.std.proofs.Common.{refl}
use Rattle.js_tree.specs.OutputUnit.{noted}
use Rattle.js_tree.proofs.KeptTree.{kept_is_reached, kept_is_normal}
use Rattle.js_tree.proofs.laws.the_kept_tree_is_reached.Goals as goal

pub returns-clause-reached : goal.returns-clause-reached
returns-clause-reached c = λ t. (refl, kept_is_reached noted t.below)

pub returns-clause-normal : goal.returns-clause-normal
returns-clause-normal c = λ t. kept_is_normal noted t.below
