-- The third rule on result trees. It ignores keyword locations.
use Rattle.std.specs.Prelude.{◌≡◌}
use Rattle.js_tree.specs.Alike.{same_but_keyword, without_keyword}
use Rattle.js_tree.specs.Forest.{Forest, empty, tree}
use Rattle.js_tree.specs.Merged.{merged_by, MergeRewrite, MergeRun, MergeNormal}
use Rattle.js_tree.specs.OutputUnit.{OutputUnit, noted}
use Rattle.js_tree.specs.Result.{ResultTree}

-- the trees without keyword locations
abbrev pub without_keywords : Forest OutputUnit → Forest OutputUnit
without_keywords empty = empty
without_keywords (tree u below after) = tree (without_keyword u) (without_keywords below) (without_keywords after)

-- the one tree in which every run of the three rules ends
abbrev pub merged : ResultTree → ResultTree
merged = merged_by noted same_but_keyword

-- a step of one of the three rules below the root, which itself stays
abbrev pub RewriteOfThree : ResultTree → ResultTree → Type 0
RewriteOfThree t u = (u.root ≡ t.root) × MergeRewrite noted same_but_keyword empty t.below u.below

-- a run of the three rules
abbrev pub RunOfThree : ResultTree → ResultTree → Type 0
RunOfThree t u = (u.root ≡ t.root) × MergeRun noted same_but_keyword empty t.below u.below

-- no step of the three rules is possible in the tree
abbrev pub NormalOfThree : ResultTree → Type 0
NormalOfThree t = MergeNormal noted same_but_keyword t.below
