-- What pruning, condensing and merging leave of one tree, and of trees side by side.
use Rattle.std.proofs.Common.{◌≡◌, Bool, true, false, not, if◌then◌else◌, refl}
use Rattle.js_tree.specs.Alike.{same_but_keyword}
use Rattle.js_tree.specs.Forest.{Forest, empty, tree, ◌⊹◌}
use Rattle.js_tree.specs.OutputUnit.{OutputUnit, noted}
use Rattle.js_tree.specs.Pruned.{pruned_below}
use Rattle.js_tree.specs.Result.{has_verdict}
use Rattle.js_tree.specs.Rewrite.{node_stands}
use Rattle.js_tree.specs.code.Reductions.{is_dropped, is_lifted, left_of_all, left_of_each}
use Rattle.js_tree.specs.declared.reducing.reduction.Reduction.{Reduction}
use Rattle.js_tree.specs.declared.reducing.reduction.Reduction.TheVariants.{Prune, Condense, Merge}
use Rattle.js_tree.proofs.Compaction.{kept_below-append, one_lifted, pruned_below-append}
use Rattle.js_tree.proofs.Giving.{given_over, given_trees-append}

pub left_of_each-append : (r : Reduction) (f g : Forest OutputUnit)
    → left_of_each r (f ⊹ g) ≡ (left_of_each r f ⊹ left_of_each r g)
left_of_each-append (Prune v) f g = pruned_below-append (has_verdict v) f g
left_of_each-append Condense f g = kept_below-append noted f g
left_of_each-append Merge f g = given_trees-append noted same_but_keyword f g

pruned_away : (b v : Bool) (u : OutputUnit) (f : Forest OutputUnit) → has_verdict v u ≡ b → not b ≡ true
    → pruned_below (has_verdict v) (tree u f empty) ≡ empty
pruned_away true v u f e n = absurd cc
pruned_away false v u f e n = rw e refl

pruned_over : (b v : Bool) (u : OutputUnit) (f g : Forest OutputUnit) → has_verdict v u ≡ b → not b ≡ false
    → g ≡ pruned_below (has_verdict v) f → pruned_below (has_verdict v) (tree u f empty) ≡ tree u g empty
pruned_over true v u f g e n h = rw (e, ← h) refl
pruned_over false v u f g e n h = absurd cc

-- ---- a tree, once it is known what is left below its root

pub one_drops : (r : Reduction) (u : OutputUnit) (f : Forest OutputUnit) → is_dropped r u ≡ true
    → left_of_each r (tree u f empty) ≡ empty
one_drops (Prune v) u f d = pruned_away (has_verdict v u) v u f refl d
one_drops Condense u f d = absurd cc
one_drops Merge u f d = absurd cc

pub one_stands : (r : Reduction) (u : OutputUnit) (f g : Forest OutputUnit) → is_dropped r u ≡ false
    → is_lifted r ≡ false → g ≡ left_of_all r f → left_of_each r (tree u f empty) ≡ tree u g empty
one_stands (Prune v) u f g d l h = pruned_over (has_verdict v u) v u f g refl d h
one_stands Condense u f g d l h = absurd cc
one_stands Merge u f g d l h = absurd cc

pub one_lifts : (r : Reduction) (u : OutputUnit) (f g : Forest OutputUnit) → is_lifted r ≡ true → g ≡ left_of_all r f
    → left_of_each r (tree u f empty) ≡ (if node_stands noted u g then tree u g empty else g)
one_lifts (Prune v) u f g l h = absurd cc
one_lifts Condense u f g l h = one_lifted noted u f g h
one_lifts Merge u f g l h = given_over noted same_but_keyword u f g h
