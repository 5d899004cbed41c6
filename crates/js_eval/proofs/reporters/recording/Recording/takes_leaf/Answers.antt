use Rattle.std.proofs.Common.{subst}
use Rattle.js_tree.specs.Rows.RelativeState.{TakesLeafAt}
use Rattle.js_eval.proofs.reporters.recording.Recording.takes_leaf.Goals as goal

pub returns-clause-at : goal.returns-clause-at
returns-clause-at c = λ yes.
    subst (λ text. TakesLeafAt c.args.self.now.rows c.args.keyword_location.now text) c.as_str-2.ensures
    (subst (λ text. TakesLeafAt c.args.self.now.rows text c.as_str-2.result.now) c.as_str.ensures
    (c.takes_leaf.ensures yes))
