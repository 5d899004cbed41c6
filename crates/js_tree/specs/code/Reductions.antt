-- What pruning, condensing and merging leave of sibling trees (of private functions).
use Rattle.std.specs.Prelude.{ℕ, Bool, true, false, not, List, get_or, take}
use Rattle.js_tree.specs.Alike.{same_but_keyword}
use Rattle.js_tree.specs.Forest.{Forest, forest_of}
use Rattle.js_tree.specs.Kept.{kept_below}
use Rattle.js_tree.specs.Merged.{given_trees, has_alike, merged_below}
use Rattle.js_tree.specs.OutputUnit.{OutputUnit, noted}
use Rattle.js_tree.specs.Pruned.{pruned_below}
use Rattle.js_tree.specs.Result.{ResultTree, has_verdict}
use Rattle.js_tree.specs.declared.reducing.reduction.Reduction.{Reduction}
use Rattle.js_tree.specs.declared.reducing.reduction.Reduction.TheVariants.{Prune, Condense, Merge}

-- what is left of each tree, one after another
abbrev pub left_of_each : Reduction → Forest OutputUnit → Forest OutputUnit
left_of_each (Prune v) = pruned_below (has_verdict v)
left_of_each Condense = kept_below noted
left_of_each Merge = given_trees noted same_but_keyword

-- what is left of them together
abbrev pub left_of_all : Reduction → Forest OutputUnit → Forest OutputUnit
left_of_all (Prune v) = pruned_below (has_verdict v)
left_of_all Condense = kept_below noted
left_of_all Merge = merged_below noted same_but_keyword

-- a tree with this root goes, whatever is below it
abbrev pub is_dropped : Reduction → OutputUnit → Bool
is_dropped (Prune v) u = not (has_verdict v u)
is_dropped Condense u = false
is_dropped Merge u = false

-- a root without a note is replaced by its only child
abbrev pub is_lifted : Reduction → Bool
is_lifted (Prune v) = false
is_lifted Condense = true
is_lifted Merge = true

-- one of the first `count` trees is alike to the one with this index
abbrev pub comes_again : List ResultTree → ℕ → ℕ → ResultTree → Bool
comes_again ts count i d =
    has_alike same_but_keyword (forest_of (take count ts)) (get_or ts i d).root (get_or ts i d).below
