use Rattle.js_tree.specs.Alike.{same_but_keyword}
use Rattle.js_tree.specs.OutputUnit.{noted}
use Rattle.js_tree.proofs.MovesAreRewrites.{moved_merge_step, merge_step_moved}
use Rattle.js_tree.proofs.laws.steps_of_three_are_moves.Goals as goal

pub returns : goal.returns
returns c = λ t u.
    (λ s. merge_step_moved noted same_but_keyword t u s, λ m. moved_merge_step noted same_but_keyword m.0 t u m.1)
