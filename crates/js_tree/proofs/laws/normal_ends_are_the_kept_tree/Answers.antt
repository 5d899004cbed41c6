use Rattle.js_tree.specs.OutputUnit.{noted}
use Rattle.js_tree.proofs.KeptTree.{run-normal}
use Rattle.js_tree.proofs.laws.normal_ends_are_the_kept_tree.Goals as goal

pub returns : goal.returns
returns c = λ t u r n. run-normal noted t u r n
