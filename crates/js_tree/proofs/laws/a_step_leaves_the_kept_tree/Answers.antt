use Rattle.js_tree.specs.OutputUnit.{noted}
use Rattle.js_tree.proofs.KeptTree.{step-kept}
use Rattle.js_tree.proofs.laws.a_step_leaves_the_kept_tree.Goals as goal

pub returns : goal.returns
returns c = λ t u s. step-kept noted t u s
