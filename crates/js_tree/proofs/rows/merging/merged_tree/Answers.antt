use Rattle.std.proofs.Common.{ap, ◌∙◌}
use Rattle.js_tree.specs.MergedResult.{merged}
use Rattle.js_tree.proofs.rows.merging.merged_tree.Goals as goal

pub returns : goal.returns
returns c = λ t h. c.merge_condense.ensures.merged ∙ ap merged (c.in_ok-tree.ensures t h)
