-- Rows of trees that are seen to have no two siblings at the same places, gone through tree by tree.
use Rattle.std.proofs.Common.{◌≡◌, ℕ, zero, suc, ◌+◌, ◌-◌, ◌≤◌, ◌<◌, Bool, true, false, ◌&&◌, not, List, length, take}
use Rattle.std.proofs.Common.{drop, map, get_or, refl, ap, sym, ◌∙◌, arith}
use Rattle.std.specs.Cmp.{IsTotalOrder}
use Rattle.std.specs.Cmp.Lexicographic.{pointwise, bytes_decides}
use Rattle.std.specs.Ordering.{is_lt}
use Rattle.std.specs.Prelude.{nat_eq}
use Rattle.std.specs.declared.cmp.Ordering.{Ordering}
use Rattle.std.specs.declared.cmp.Ordering.TheVariants.{Less, Equal, Greater}
use Rattle.std.proofs.lemmas.List.{length-drop, length-take}
use Rattle.std.proofs.lemmas.Cmp.{nat_cmp_total, nat_list_cmp_total, on_total, then_total, tied_itself}
use Rattle.js_tree.specs.Flat.{flat_of}
use Rattle.js_tree.specs.Forest.{Forest, empty, tree, node_count}
use Rattle.js_tree.specs.OutputUnit.{OutputUnit}
use Rattle.js_tree.proofs.FlatRows.{FirstTree, all_gone, first_tree}
use Rattle.js_tree.proofs.Rewrites.{and_left, and_right}
use Rattle.js_tree.specs.Rows.RelativeState.{relative_row}
use Rattle.js_tree.specs.code.Differing.{AreTrees, none_there, same_places, siblings_differ}
use Rattle.js_tree.specs.code.PartOrder.{ascend_behind, differ_below, part_order, part_rank, rank_of, ranked}
use Rattle.js_tree.specs.code.PartOrder.{roots_differ}
use Rattle.js_tree.specs.declared.rows.relative_rows.RelativeRow.{RelativeRow}

both : (b c : Bool) → b ≡ true → c ≡ true → (b && c) ≡ true
both true c e f = f
both false c e f = absurd cc

not-false : (b : Bool) → b ≡ false → not b ≡ true
not-false b e = ap not e

-- ---- the order of parts

part_order-total : IsTotalOrder part_order
part_order-total =
    then_total (on_total (λ (p : ℕ × List ℕ). p.0) nat_cmp_total)
    (on_total (λ (p : ℕ × List ℕ). p.1) nat_list_cmp_total)

less_is : (o : Ordering) → is_lt o ≡ true → o ≡ Less
less_is Less e = refl
less_is Equal e = absurd cc
less_is Greater e = absurd cc

equal_less : (o : Ordering) → o ≡ Equal → o ≡ Less → ⊥
equal_less o e l = cc

-- what comes before another adds something else
before-apart : (u v : OutputUnit) → part_order (ranked u) (ranked v) ≡ Less → same_places u v ≡ false
before-apart u v l = at (pointwise nat_eq u.instance v.instance) refl
  where
    at : (b : Bool) → pointwise nat_eq u.instance v.instance ≡ b → (b && pointwise nat_eq u.absolute v.absolute) ≡ false
    at false e = refl
    at true e =
        let same : ranked u ≡ ranked v = ap (λ i. (part_rank i, i)) ((bytes_decides u.instance v.instance).0 e) in
        let tied = ap (λ p. part_order p (ranked v)) same ∙ tied_itself part_order-total (ranked v) in
        absurd (equal_less (part_order (ranked u) (ranked v)) tied l)

none_behind : (u : OutputUnit) (p : ℕ × List ℕ) (f : Forest OutputUnit) → part_order (ranked u) p ≡ Less
    → ascend_behind p f ≡ true → none_there u f ≡ true
none_behind u p empty l h = refl
none_behind u p (tree v under after) l h =
    let next = less_is (part_order p (ranked v)) (and_left (is_lt (part_order p (ranked v))) _ h) in
    let less = part_order-total.trans (ranked u) p (ranked v) l next in
    both (not (same_places u v)) (none_there u after) (not-false (same_places u v) (before-apart u v less))
    (none_behind u (ranked v) after less (and_right (is_lt (part_order p (ranked v))) _ h))

none_after : (u : OutputUnit) (f : Forest OutputUnit) → ascend_behind (ranked u) f ≡ true → none_there u f ≡ true
none_after u empty h = refl
none_after u (tree v under after) h =
    let next = less_is (part_order (ranked u) (ranked v)) (and_left (is_lt (part_order (ranked u) (ranked v))) _ h) in
    both (not (same_places u v)) (none_there u after) (not-false (same_places u v) (before-apart u v next))
    (none_behind u (ranked v) after next (and_right (is_lt (part_order (ranked u) (ranked v))) _ h))

pub ascend-differ : (p : ℕ × List ℕ) (f : Forest OutputUnit) → ascend_behind p f ≡ true → roots_differ f ≡ true
ascend-differ p empty h = refl
ascend-differ p (tree u below after) h =
    let rest = and_right (is_lt (part_order p (ranked u))) _ h in
    both (none_there u after) (roots_differ after) (none_after u after rest) (ascend-differ (ranked u) after rest)

pub rank-some : (n : ℕ) → ((n ≡ 0) → ⊥) → n ≡ rank_of n
rank-some zero h = absurd (h refl)
rank-some (suc n) h = refl

-- ---- the roots, and below them

pub roots-siblings : (f : Forest OutputUnit) → roots_differ f ≡ true → differ_below f ≡ true → siblings_differ f ≡ true
roots-siblings empty r b = refl
roots-siblings (tree u below after) r b =
    both (none_there u after) _ (and_left (none_there u after) _ r)
    (both (siblings_differ below) _ (and_left (siblings_differ below) _ b)
    (roots-siblings after (and_right (none_there u after) _ r) (and_right (siblings_differ below) _ b)))

-- ---- from tree to tree

-- what holds of the trees that are left decides
pub record LeftToSee (rows : List RelativeRow) (next : ℕ) (rest : Forest OutputUnit → Bool) (whole : Bool)
    : Type 0 where
  pub left : Forest OutputUnit
  pub left_is : map relative_row (drop next rows) ≡ flat_of left
  pub decides : rest left ≡ true → whole ≡ true

-- so for each forest that these rows are of; and the rows from the next on are those of trees
abbrev pub SeesUpTo : List RelativeRow → ℕ → List RelativeRow → (Forest OutputUnit → Bool)
    → (Forest OutputUnit → Bool) → Type 0
SeesUpTo rows next these rest whole =
    AreTrees (drop next rows)
    × ((f : Forest OutputUnit) → map relative_row these ≡ flat_of f → LeftToSee rows next rest (whole f))

pub see_from : (rows : List RelativeRow) (next : ℕ) (rest : Forest OutputUnit → Bool) (whole : Bool)
    (f : Forest OutputUnit) → map relative_row (drop next rows) ≡ flat_of f → (rest f ≡ true → whole ≡ true)
    → LeftToSee rows next rest whole
see_from rows next rest whole f e d = record { left = f; left_is = e; decides = d }

pub tree_there : {rest : Forest OutputUnit → Bool} {whole : Bool} (rows : List RelativeRow) (next : ℕ)
    (x : RelativeRow) (l : LeftToSee rows next rest whole) → next < length rows → x ≡ get_or rows next x
    → FirstTree relative_row rows next l.left x
tree_there rows next x l h is = first_tree relative_row rows next l.left x l.left_is h is

pub more_at : (rows : List RelativeRow) (next end : ℕ) (f : Forest OutputUnit) (x : RelativeRow)
    (t : FirstTree relative_row rows next f x) → end ≡ next + x.size
    → map relative_row (drop end rows) ≡ flat_of t.after
more_at rows next end f x t e = ap (λ n. map relative_row (drop n rows)) e ∙ t.more

pub see_next : {rest now : Forest OutputUnit → Bool} {whole : Bool} (rows : List RelativeRow) (next end : ℕ)
    (x : RelativeRow) (l : LeftToSee rows next rest whole) (t : FirstTree relative_row rows next l.left x)
    → end ≡ next + x.size → (now t.after ≡ true → rest (tree t.unit t.below t.after) ≡ true)
    → LeftToSee rows end now whole
see_next {rest} rows next end x l t e d =
    record
    { left = t.after; left_is = more_at rows next end l.left x t e; decides = λ h. l.decides (ap rest t.is ∙ d h) }

pub see_end : {rest : Forest OutputUnit → Bool} {whole : Bool} (rows : List RelativeRow) (next : ℕ)
    → LeftToSee rows next rest whole → length rows ≤ next → rest empty ≡ true → whole ≡ true
see_end {rest} rows next l h e = l.decides (ap rest (all_gone relative_row rows next l.left l.left_is h) ∙ e)

-- ---- one tree more

pub ascend_step : (p : ℕ × List ℕ) (x : RelativeRow) (n : ℕ) (u : OutputUnit) (below after : Forest OutputUnit)
    → (relative_row x).0 ≡ u → n ≡ part_rank x.instance.now → is_lt (part_order p (n, x.instance.now)) ≡ true
    → ascend_behind (n, x.instance.now) after ≡ true → ascend_behind p (tree u below after) ≡ true
ascend_step p x n u below after is r l h =
    let same : (n, x.instance.now) ≡ ranked u = ap (λ m. (m, x.instance.now)) r ∙ ap ranked is in
    both (is_lt (part_order p (ranked u))) _
    (ap (λ q. is_lt (part_order p q)) (sym same) ∙ l) (ap (λ q. ascend_behind q after) (sym same) ∙ h)

pub pairs_step : (v u : OutputUnit) (below after : Forest OutputUnit) → v ≡ u → none_there v after ≡ true
    → roots_differ after ≡ true → roots_differ (tree u below after) ≡ true
pairs_step v u below after is n h = both (none_there u after) _ (ap (λ w. none_there w after) (sym is) ∙ n) h

pub alone_step : (v w u : OutputUnit) (below after : Forest OutputUnit) → w ≡ u → same_places v w ≡ false
    → none_there v after ≡ true → none_there v (tree u below after) ≡ true
alone_step v w u below after is n h =
    both (not (same_places v u)) _ (not-false (same_places v u) (ap (same_places v) (sym is) ∙ n)) h

pub below_step : (u : OutputUnit) (below after : Forest OutputUnit) → siblings_differ below ≡ true
    → differ_below after ≡ true → differ_below (tree u below after) ≡ true
below_step u below after s h = both (siblings_differ below) _ s h

-- one node has no siblings
pub one_differs : (below : Forest OutputUnit) (n : ℕ) → n ≡ suc (node_count below) → n ≤ 2
    → siblings_differ below ≡ true
one_differs empty n e h = refl
one_differs (tree u empty empty) n e h = refl
one_differs (tree u empty (tree v under after)) n e h = absurd (omega (arith, e, h))
one_differs (tree u (tree v under others) after) n e h = absurd (omega (arith, e, h))

-- the rows below the first root are those of the trees below it
pub rows_inside : (rows : List RelativeRow) (next end : ℕ) (f : Forest OutputUnit) (x : RelativeRow)
    (t : FirstTree relative_row rows next f x) → end ≡ next + x.size
    → map relative_row (take (end - (next + 1)) (drop (next + 1) rows)) ≡ flat_of t.below
rows_inside rows next end f x t e =
    let size : end - (next + 1) ≡ x.size - 1 = omega arith in
    ap (λ n. map relative_row (take n (drop (next + 1) rows))) size ∙ t.inside

pub fewer_inside : (rows : List RelativeRow) (next end : ℕ) → next < length rows
    → length (take (end - (next + 1)) (drop (next + 1) rows)) < length rows
fewer_inside rows next end h =
    omega (arith, h, length-take (end - (next + 1)) (drop (next + 1) rows), length-drop (next + 1) rows)
