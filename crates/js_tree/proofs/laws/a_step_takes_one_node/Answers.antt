use Rattle.std.proofs.Common.{sym}
use Rattle.js_tree.specs.OutputUnit.{noted}
use Rattle.js_tree.proofs.Rewrites.{step_takes_one}
use Rattle.js_tree.proofs.laws.a_step_takes_one_node.Goals as goal

pub returns : goal.returns
returns c = λ t u s. sym (step_takes_one noted s.1)
