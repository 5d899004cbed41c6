-- A total order of values, as a test that computes: null, false, true, texts by their bytes, numbers from 0 up, numbers
-- from -1 down, lists item by item, and objects member by member, a name before its value. A list or an object that
-- ends comes before one that goes on. The order is the project's own; it ties exactly the values that are equal
-- (`order-ties`, `order-sound`).
use Rattle.std.specs.Prelude.{◌≡◌, ℕ, List, [], ◌∷◌, refl}
use Rattle.std.proofs.Common.{ap, ◌∙◌, subst, is_eq}
use Rattle.std.specs.Cmp.{IsTotalOrder, on_total, unsigned_ties, both_tied}
use Rattle.std.specs.Cmp.Lexicographic.{slice_cmp, on_texts}
use Rattle.std.specs.Ordering.{nat_cmp, ordering_then, eq_by_cmp}
use Rattle.std.specs.declared.cmp.Ordering.{Ordering}
use Rattle.std.specs.declared.cmp.Ordering.TheVariants.{Less, Equal, Greater}
use base.Stored.{Gv, gnil, gnum, gcons}
use Rattle.js_doc.specs.Value.{Value}
use Rattle.js_doc.specs.Coding.{to_value}
use Rattle.js_doc.specs.Equality.{same, same_tree, same-sound}

-- the order of stored trees, node by node
abbrev pub tree_order : Gv → Gv → Ordering
tree_order gnil gnil = Equal
tree_order (gnum m) (gnum n) = nat_cmp m n
tree_order (gcons a b) (gcons c d) = ordering_then (tree_order a c) (tree_order b d)
tree_order gnil _ = Less
tree_order _ gnil = Greater
tree_order (gnum m) _ = Less
tree_order _ (gnum n) = Greater

-- the order of values: no two of them are stored alike
abbrev pub order : Value → Value → Ordering
order v w = tree_order (to_value v) (to_value w)

-- ---- it is total: trees are ordered as the lists of numbers that they are written as

abbrev flat : Gv → List ℕ → List ℕ
flat gnil k = 0 ∷ k
flat (gnum n) k = 1 ∷ n ∷ k
flat (gcons a b) k = 2 ∷ flat a (flat b k)

pub then_then : (r s t : Ordering) → ordering_then r (ordering_then s t) ≡ ordering_then (ordering_then r s) t
then_then Less s t = refl
then_then Equal s t = refl
then_then Greater s t = refl

pub then_equal : (r : Ordering) → ordering_then r Equal ≡ r
then_equal Less = refl
then_equal Equal = refl
then_equal Greater = refl

flat_order : (a b : Gv) (k l : List ℕ)
    → slice_cmp nat_cmp (flat a k) (flat b l) ≡ ordering_then (tree_order a b) (slice_cmp nat_cmp k l)
flat_order gnil gnil k l = refl
flat_order gnil (gnum n) k l = refl
flat_order gnil (gcons c d) k l = refl
flat_order (gnum m) gnil k l = refl
flat_order (gnum m) (gnum n) k l = refl
flat_order (gnum m) (gcons c d) k l = refl
flat_order (gcons a b) gnil k l = refl
flat_order (gcons a b) (gnum n) k l = refl
flat_order (gcons a b) (gcons c d) k l =
    flat_order a c (flat b k) (flat d l) ∙ ap (ordering_then (tree_order a c)) (flat_order b d k l)
    ∙ then_then (tree_order a c) (tree_order b d) (slice_cmp nat_cmp k l)

tree_order-total : IsTotalOrder tree_order
tree_order-total = subst IsTotalOrder (λ i a b. (flat_order a b [] [] ∙ then_equal (tree_order a b)) i)
    (on_texts (λ g. flat g []))

pub order-total : IsTotalOrder order
order-total = on_total to_value tree_order-total

-- ---- it ties exactly the values that are equal

tree_ties : (a b : Gv) → same_tree a b ≡ is_eq (tree_order a b)
tree_ties gnil gnil = refl
tree_ties gnil (gnum n) = refl
tree_ties gnil (gcons c d) = refl
tree_ties (gnum m) gnil = refl
tree_ties (gnum m) (gnum n) = unsigned_ties m n
tree_ties (gnum m) (gcons c d) = refl
tree_ties (gcons a b) gnil = refl
tree_ties (gcons a b) (gnum n) = refl
tree_ties (gcons a b) (gcons c d) =
    both_tied (same_tree a c) (same_tree b d) (tree_order a c) (tree_order b d) (tree_ties a c) (tree_ties b d)

pub order-ties : (v w : Value) → same v w ≡ eq_by_cmp order v w
order-ties v w = tree_ties (to_value v) (to_value w)

pub order-sound : (v w : Value) → order v w ≡ Equal → v ≡ w
order-sound v w e = same-sound v w (order-ties v w ∙ ap is_eq e)
