use Rattle.std.proofs.Common.{◌∙◌}
use Rattle.js_tree.specs.Result.{pruned}
use Rattle.js_tree.specs.Trimmed.{trimmed_tree}
use Rattle.js_tree.proofs.MergedLaws.{merged-kept}
use Rattle.js_tree.proofs.Trimming.{same_merged}
use Rattle.js_tree.proofs.laws.the_kept_tree_has_the_same_merged_tree.Goals as goal

pub returns-clause-kept : goal.returns-clause-kept
returns-clause-kept c = merged-kept

pub returns-clause-trimmed : goal.returns-clause-trimmed
returns-clause-trimmed c = λ t. merged-kept (pruned (trimmed_tree t)) ∙ same_merged t
