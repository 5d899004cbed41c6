use Rattle.js_tree.specs.OutputUnit.{noted}
use Rattle.js_tree.proofs.KeptTree.{normal-kept}
use Rattle.js_tree.proofs.laws.a_normal_tree_is_its_kept_tree.Goals as goal

pub returns : goal.returns
returns c = λ t n. normal-kept noted t n
