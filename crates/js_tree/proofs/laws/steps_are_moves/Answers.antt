use Rattle.js_tree.specs.Alike.{same_but_keyword}
use Rattle.js_tree.specs.OutputUnit.{noted}
use Rattle.js_tree.proofs.MovesAreRewrites.{moved_step, step_moved}
use Rattle.js_tree.proofs.laws.steps_are_moves.Goals as goal

pub returns : goal.returns
returns c = λ t u.
    (λ s. step_moved noted same_but_keyword t u s, λ m. moved_step noted same_but_keyword m.0 t u m.1 m.2)
