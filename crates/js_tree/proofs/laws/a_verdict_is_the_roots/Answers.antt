use Rattle.js_tree.proofs.VerdictCollected.{verdict_held}
use Rattle.js_tree.proofs.laws.a_verdict_is_the_roots.Goals as goal

pub returns : goal.returns
returns c = verdict_held
