-- Trees of which no two siblings stand at the same places: then none are alike, and merging leaves a normal tree as it
-- is.
use Rattle.std.proofs.Common.{◌≡◌, ℕ, Bool, true, false, not, nat_eq, List, drop, length, refl, ap}
use Rattle.std.specs.Cmp.Lexicographic.{pointwise, bytes_decides}
use Rattle.json.specs.Print.{escape}
use Rattle.js_tree.specs.Alike.{same_but_keyword}
use Rattle.js_tree.specs.Forest.{Forest, empty, tree, ◌⊹◌}
use Rattle.js_tree.specs.Merged.{all_merged, has_alike, none_alike}
use Rattle.js_tree.specs.MergedResult.{merged}
use Rattle.js_tree.specs.OutputUnit.{OutputUnit, noted}
use Rattle.js_tree.specs.Result.{Normal, ResultTree}
use Rattle.js_tree.specs.Rewrite.{all_stand, node_stands}
use Rattle.js_tree.proofs.AlikeUnits.{same_but_keyword_decides}
use Rattle.js_tree.proofs.MergedLaws.{normal_of_three-merged}
use Rattle.js_tree.proofs.MergedTest.{not_true, tests_normal}
use Rattle.js_tree.proofs.Rewrites.{and_left, and_right, normal-all_stand}
use Rattle.js_tree.specs.Rows.Relative.{escaped, escaped_tree, escaped_unit, relative, relative_tree, relative_unit}
use Rattle.js_tree.specs.code.Differing.{none_there, same_places, siblings_differ}

-- the unit as a row has it, below a node whose locations are so long
abbrev shown : ℕ → ℕ → OutputUnit → OutputUnit
shown k i u = escaped_unit (relative_unit k i u)

abbrev all_shown : ℕ → ℕ → Forest OutputUnit → Forest OutputUnit
all_shown k i f = escaped (relative k i f)

-- ---- of two units

equal_texts : (s t : List ℕ) → s ≡ t → pointwise nat_eq s t ≡ true
equal_texts s t e = (bytes_decides s t).1 e

same_there : (k i : ℕ) (u v : OutputUnit) → same_but_keyword u v ≡ true
    → same_places (shown k i u) (shown k i v) ≡ true
same_there k i u v h =
    let e = (same_but_keyword_decides u v).0 h in
    let instance = ap (λ w. escape (drop i w.instance)) e in
    let absolute = ap (λ w. escape w.absolute) e in
    rw (equal_texts (escape (drop i u.instance)) (escape (drop i v.instance)) instance)
    (equal_texts (escape u.absolute) (escape v.absolute) absolute)

not_same : (b : Bool) (k i : ℕ) (u v : OutputUnit) → same_but_keyword u v ≡ b
    → not (same_places (shown k i u) (shown k i v)) ≡ true → same_but_keyword u v ≡ false
not_same true k i u v e n = absurd (not_true (same_places (shown k i u) (shown k i v)) (same_there k i u v e) n)
not_same false k i u v e n = e

-- ---- of siblings

-- none of the second trees' roots stands where one of the first trees' does
abbrev AreApart : ℕ → ℕ → Forest OutputUnit → Forest OutputUnit → Type 0
AreApart k i empty f = Unit {0}
AreApart k i (tree u below after) f = (none_there (shown k i u) (all_shown k i f) ≡ true) × AreApart k i after f

no_alike : (k i : ℕ) (before : Forest OutputUnit) (v : OutputUnit) (under after : Forest OutputUnit)
    → AreApart k i before (tree v under after) → has_alike same_but_keyword before v under ≡ false
no_alike k i empty v under after h = refl
no_alike k i (tree u below more) v under after h =
    let n = and_left (not (same_places (shown k i u) (shown k i v))) _ h.0 in
    rw (not_same (same_but_keyword u v) k i u v refl n) (no_alike k i more v under after h.1)

one_before : (k i : ℕ) (before : Forest OutputUnit) (v : OutputUnit) (under after : Forest OutputUnit)
    → AreApart k i before (tree v under after) → none_there (shown k i v) (all_shown k i after) ≡ true
    → AreApart k i (before ⊹ tree v under empty) after
one_before k i empty v under after h n = (n, tt)
one_before k i (tree u below more) v under after h n =
    (and_right (not (same_places (shown k i u) (shown k i v))) _ h.0, one_before k i more v under after h.1 n)

differing-none_alike : (k i : ℕ) (before f : Forest OutputUnit) → AreApart k i before f
    → siblings_differ (all_shown k i f) ≡ true → none_alike same_but_keyword before f ≡ true
differing-none_alike k i before empty h d = refl
differing-none_alike k i before (tree v under after) h d =
    let n = none_there (shown k i v) (all_shown k i after) in
    let down = siblings_differ (all_shown (length v.keyword) (length v.instance) under) in
    let on = one_before k i before v under after h (and_left n _ d) in
    let rest = and_right down _ (and_right n _ d) in
    rw (no_alike k i before v under after h)
    (differing-none_alike k i (before ⊹ tree v under empty) after on rest)

-- ---- of all trees

differing-all_merged : (k i : ℕ) (f : Forest OutputUnit) → siblings_differ (all_shown k i f) ≡ true
    → all_stand noted f ≡ true → all_merged noted same_but_keyword f ≡ true
differing-all_merged k i empty d s = refl
differing-all_merged k i (tree v under after) d s =
    let n = none_there (shown k i v) (all_shown k i after) in
    let down = siblings_differ (all_shown (length v.keyword) (length v.instance) under) in
    let both = and_right n _ d in
    let here = and_left (node_stands noted v under) _ s in
    let stand = and_right (node_stands noted v under) _ s in
    let inside = and_left down _ both in
    let stand_below = and_left (all_stand noted under) _ stand in
    rw (
      here,
      differing-none_alike (length v.keyword) (length v.instance) empty under tt inside,
      differing-all_merged (length v.keyword) (length v.instance) under inside stand_below,
      differing-all_merged k i after (and_right down _ both) (and_right (all_stand noted under) _ stand),
    ) refl

-- merging leaves it as it is
pub merged_as_it_is : (t : ResultTree) → Normal t → siblings_differ (escaped_tree (relative_tree t)).below ≡ true
    → merged t ≡ t
merged_as_it_is t n d =
    let k = length t.root.keyword in
    let i = length t.root.instance in
    let none = differing-none_alike k i empty t.below tt d in
    let all = differing-all_merged k i t.below d (normal-all_stand noted t.below n) in
    normal_of_three-merged t (tests_normal noted same_but_keyword t.below (rw (none, all) refl))
