use Rattle.std.proofs.Common.{refl}
use Rattle.js_tree.proofs.Trimming.{same_kept, same_merged, same_units}
use Rattle.js_tree.proofs.laws.a_trimmed_tree_shows_the_same.Goals as goal

pub returns : goal.returns
returns c = record { units = same_units; kept = same_kept; merged = same_merged; root = λ t. refl }
