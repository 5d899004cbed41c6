-- The order of trees is total, and doesn't distinguish alike trees.
use Rattle.std.proofs.Common.{◌≡◌, ℕ, true, List, [], ◌∷◌, Option, Some, None, refl, ap, ◌∙◌, subst}
use Rattle.std.proofs.lemmas.Cmp.{then_total, nat_cmp_total, nat_list_cmp_total, lists_total, tied_itself, on_total}
use Rattle.std.specs.Cmp.{IsTotalOrder, bool_cmp_total}
use Rattle.std.specs.Cmp.Derive.{then_next}
use Rattle.std.specs.Cmp.Lexicographic.{slice_cmp, options_total}
use Rattle.std.specs.Option.{option_cmp}
use Rattle.std.specs.Ordering.{nat_cmp, ordering_then, then_cmp, on}
use Rattle.std.specs.declared.cmp.Ordering.{Ordering}
use Rattle.std.specs.declared.cmp.Ordering.TheVariants.{Less, Equal, Greater}
use Rattle.js_tree.specs.Alike.{same_but_keyword}
use Rattle.js_tree.specs.Forest.{Forest, empty, tree}
use Rattle.js_tree.specs.Merged.{alike, alike_trees}
use Rattle.js_tree.specs.Note.{Note, silent, error, value, names, index, indexes, truly}
use Rattle.js_tree.specs.OutputUnit.{OutputUnit}
use Rattle.js_tree.specs.Result.{ResultTree}
use Rattle.js_tree.specs.code.Order.{note_rank, note_order, unit_order, forest_order, result_tree_order}
use Rattle.js_tree.proofs.AlikeUnits.{same_but_keyword_decides}
use Rattle.js_tree.proofs.Rewrites.{and_left, and_right}

then_then : (r s t : Ordering) → ordering_then r (ordering_then s t) ≡ ordering_then (ordering_then r s) t
then_then r s t = then_next r s t refl refl

then_equal : (r : Ordering) → ordering_then r Equal ≡ r
then_equal Less = refl
then_equal Equal = refl
then_equal Greater = refl

-- ---- of notes: their kinds, and lists of lists of numbers

abbrev said : Note → List (List ℕ)
said silent = []
said (error text) = text ∷ []
said (value v) = []
said (names ns) = ns
said (index i) = (i ∷ []) ∷ []
said (indexes is) = is ∷ []
said truly = []

abbrev said_order : Note → Note → Ordering
said_order = then_cmp (on note_rank nat_cmp) (on said (slice_cmp (slice_cmp nat_cmp)))

said-note_order : (m n : Note) → said_order m n ≡ note_order m n
said-note_order silent silent = refl
said-note_order (error a) (error b) = then_equal (slice_cmp nat_cmp a b)
said-note_order (value a) (value b) = refl
said-note_order (names a) (names b) = refl
said-note_order (index a) (index b) = then_equal (ordering_then (nat_cmp a b) Equal) ∙ then_equal (nat_cmp a b)
said-note_order (indexes a) (indexes b) = then_equal (slice_cmp nat_cmp a b)
said-note_order truly truly = refl
said-note_order m n = refl

said_order-total : IsTotalOrder said_order
said_order-total = then_total (on_total note_rank nat_cmp_total) (on_total said (lists_total nat_list_cmp_total))

note_order-total : IsTotalOrder note_order
note_order-total = subst IsTotalOrder (λ i m n. said-note_order m n i) said_order-total

-- ---- of units

unit_order-total : IsTotalOrder unit_order
unit_order-total =
    then_total (on_total (λ u. u.valid) bool_cmp_total)
    (then_total (on_total (λ u. u.instance) nat_list_cmp_total)
    (then_total (on_total (λ u. u.absolute) nat_list_cmp_total) (on_total (λ u. u.note) note_order-total)))

unit_order-alike : (u v : OutputUnit) → same_but_keyword u v ≡ true → unit_order u v ≡ Equal
unit_order-alike u v e =
    let k = (same_but_keyword_decides u v).0 e in
    let same : unit_order u v ≡ unit_order v v = ap (λ w. unit_order w v) k in
    same ∙ tied_itself unit_order-total v

-- ---- of trees, which are written down as lists of units

abbrev written : Forest OutputUnit → List (Option OutputUnit) → List (Option OutputUnit)
written empty rest = None ∷ rest
written (tree u below after) rest = Some u ∷ written below (written after rest)

written_order : (f g : Forest OutputUnit) (k l : List (Option OutputUnit)) → slice_cmp (option_cmp unit_order)
    (written f k) (written g l) ≡ ordering_then (forest_order f g) (slice_cmp (option_cmp unit_order) k l)
written_order empty empty k l = refl
written_order empty (tree v under others) k l = refl
written_order (tree u below after) empty k l = refl
written_order (tree u below after) (tree v under others) k l =
    let rest = slice_cmp (option_cmp unit_order) k l in
    ap (ordering_then (unit_order u v)) (written_order below under (written after k) (written others l)
    ∙ ap (ordering_then (forest_order below under)) (written_order after others k l))
    ∙ then_then (unit_order u v) (forest_order below under) (ordering_then (forest_order after others) rest)
    ∙ then_then (ordering_then (unit_order u v) (forest_order below under)) (forest_order after others) rest

forest_order-total : IsTotalOrder forest_order
forest_order-total =
    subst IsTotalOrder (λ i f g. (written_order f g [] [] ∙ then_equal (forest_order f g)) i)
    (on_total (λ f. written f []) (lists_total (options_total unit_order-total)))

pub result_tree_order-total : IsTotalOrder result_tree_order
result_tree_order-total =
    then_total (on_total (λ t. t.root) unit_order-total) (on_total (λ t. t.below) forest_order-total)

forest_order-alike : (f g : Forest OutputUnit) → alike same_but_keyword f g ≡ true → forest_order f g ≡ Equal
forest_order-alike empty empty e = refl
forest_order-alike empty (tree v under others) e = absurd cc
forest_order-alike (tree u below after) empty e = absurd cc
forest_order-alike (tree u below after) (tree v under others) e =
    let here = and_left (alike_trees same_but_keyword u below v under) _ e in
    rw (
      unit_order-alike u v (and_left (same_but_keyword u v) _ here),
      forest_order-alike below under
          (and_right (same_but_keyword u v) _ here),
    )
    (forest_order-alike after others (and_right (alike_trees same_but_keyword u below v under) _ e))

pub result_tree_order-alike : (t u : ResultTree) → alike_trees same_but_keyword t.root t.below u.root u.below ≡ true
    → result_tree_order t u ≡ Equal
result_tree_order-alike t u e =
    rw (
      unit_order-alike t.root u.root (and_left (same_but_keyword t.root u.root) _ e),
      forest_order-alike t.below
          u.below (and_right (same_but_keyword t.root u.root) _ e),
    ) refl
