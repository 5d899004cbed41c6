-- How many nodes are left of trees, and how many rows their marks have room for.
use Rattle.std.proofs.Common.{◌≡◌, ℕ, suc, ◌+◌, ◌-◌, ◌≤◌, Bool, true, false, ◌||◌, if◌then◌else◌}
use Rattle.std.proofs.Common.{◌∷◌, ◌++◌, length, refl, ap, sym, ◌∙◌, arith}
use Rattle.std.proofs.lemmas.List.{append_assoc, length-append}
use Rattle.js_tree.specs.code.Compacting.{left, left_tree_count, stays, room, marked_rows}
use Rattle.js_tree.specs.Forest.{Forest, empty, tree, ◌⊹◌, node_count, tree_count}
use Rattle.js_tree.specs.Kept.{kept_below, noted_trees}
use Rattle.js_tree.specs.OutputUnit.{OutputUnit, noted}
use Rattle.js_tree.specs.Pruned.{pruned_below}
use Rattle.js_tree.specs.Result.{has_verdict}
use Rattle.js_tree.specs.Rewrite.{at_least_one, at_least_two}
use Rattle.js_tree.specs.declared.reducing.compacting.Keep.{Keep}
use Rattle.js_tree.specs.declared.reducing.compacting.Keep.TheVariants.{Verdict, Noted}
use Rattle.js_tree.specs.declared.collecting.flat.Row.{Row}
use Rattle.js_tree.proofs.Compaction.{pruned_below-append, kept_below-append}
use Rattle.js_tree.proofs.Forests.{append-empty, node_count-append}
use Rattle.js_tree.proofs.KeptTree.{tree_count-kept_below}

-- the row of a node, marked
abbrev pub row_marked : Keep → OutputUnit → Forest OutputUnit → Row
row_marked k u below = record {
  unit = u;
  size = suc (node_count below);
  room = node_count (left k (tree u below empty));
  stays = stays k u (left_tree_count k below);
}

-- ---- trees side by side

left-append : (k : Keep) (f g : Forest OutputUnit) → left k (f ⊹ g) ≡ (left k f ⊹ left k g)
left-append (Verdict v) f g = pruned_below-append (has_verdict v) f g
left-append Noted f g = kept_below-append noted f g

pub marked_rows-append : (k : Keep) (f g : Forest OutputUnit)
    → marked_rows k (f ⊹ g) ≡ marked_rows k f ++ marked_rows k g
marked_rows-append k empty g = refl
marked_rows-append k (tree u below after) g =
    let r = row_marked k u below in
    ap (λ xs. r ∷ (marked_rows k below ++ xs)) (marked_rows-append k after g)
    ∙ ap (λ xs. r ∷ xs) (sym (append_assoc (marked_rows k below) (marked_rows k after) (marked_rows k g)))

pub length-marked_rows : (k : Keep) (f : Forest OutputUnit) → length (marked_rows k f) ≡ node_count f
length-marked_rows k empty = refl
length-marked_rows k (tree u below after) = omega (
  arith,
  length-append (marked_rows k below) (marked_rows k after),
  length-marked_rows k below,
  length-marked_rows k after,
)

-- what is left of a tree and of those after it
pub node_count-left : (k : Keep) (u : OutputUnit) (below after : Forest OutputUnit)
    → node_count (left k (tree u below after)) ≡ node_count (left k (tree u below empty)) + node_count (left k after)
node_count-left k u below after = ap node_count (left-append k (tree u below empty) after)
    ∙ node_count-append (left k (tree u below empty)) (left k after)

-- ---- a node's marks, of what is left below it

pruned_room : (v : Bool) (u : OutputUnit) (f : Forest OutputUnit)
    → node_count (if v then tree u f empty else empty) ≡ (if v then suc (node_count f) else 0)
pruned_room true u f = omega arith
pruned_room false u f = refl

kept_room : (v : Bool) (u : OutputUnit) (f : Forest OutputUnit)
    → node_count (if v then tree u f empty else (f ⊹ empty)) ≡ (if v then suc (node_count f) else node_count f)
kept_room true u f = omega arith
kept_room false u f = ap node_count (append-empty f)

-- of a forest with a tree there is a node
some_node : (f : Forest OutputUnit) → at_least_one (node_count f) ≡ at_least_one (tree_count f)
some_node empty = refl
some_node (tree u below after) = refl

one_if : (v : Bool) → at_least_one (if v then 1 else 0) ≡ v
one_if true = refl
one_if false = refl

kept_some : (u : OutputUnit) (below : Forest OutputUnit)
    → at_least_one (node_count (kept_below noted (tree u below empty)))
    ≡ (noted u || at_least_one (noted_trees noted below))
kept_some u below =
    some_node (kept_below noted (tree u below empty)) ∙
    (ap at_least_one (tree_count-kept_below noted (tree u below empty))
    ∙ one_if (noted u || at_least_one (noted_trees noted below)))

pub left_tree_count-noted : (f : Forest OutputUnit) → left_tree_count Noted f ≡ noted_trees noted f
left_tree_count-noted empty = refl
left_tree_count-noted (tree u below after) = rw (kept_some u below, left_tree_count-noted after) refl

pub room_is : (k : Keep) (u : OutputUnit) (below : Forest OutputUnit)
    → room k (stays k u (left_tree_count k below)) (node_count (left k below))
    ≡ node_count (left k (tree u below empty))
room_is (Verdict v) u below = sym (pruned_room (has_verdict v u) u (pruned_below (has_verdict v) below))
room_is Noted u below =
    ap (λ n. room Noted (stays Noted u n) (node_count (kept_below noted below))) (left_tree_count-noted below)
    ∙ sym (kept_room (noted u || at_least_two (noted_trees noted below)) u (kept_below noted below))

-- ---- no more is left than there was

fewer_at : (b : Bool) (n m : ℕ) → n ≤ m → (if b then suc n else 0) ≤ suc m
fewer_at true n m h = omega arith
fewer_at false n m h = omega arith

fewer_kept : (b : Bool) (n m : ℕ) → n ≤ m → (if b then suc n else n) ≤ suc m
fewer_kept true n m h = omega arith
fewer_kept false n m h = omega arith

fewer_room : (k : Keep) (b : Bool) (n m : ℕ) → n ≤ m → room k b n ≤ suc m
fewer_room (Verdict v) b n m h = fewer_at b n m h
fewer_room Noted b n m h = fewer_kept b n m h

pub fewer_left : (k : Keep) (f : Forest OutputUnit) → node_count (left k f) ≤ node_count f
fewer_left (Verdict v) empty = omega arith
fewer_left Noted empty = omega arith
fewer_left k (tree u below after) =
    let e = node_count-left k u below after in
    let r = room_is k u below in
    let l = fewer_room k (stays k u (left_tree_count k below)) (node_count (left k below))
    (node_count below) (fewer_left k below) in
    omega (arith, e, r, l, fewer_left k after)

few_at : (b : Bool) (n m l : ℕ) → n ≤ l → (if b then suc n else n) ≤ suc (m + l)
few_at true n m l h = omega arith
few_at false n m l h = omega arith

pub fewer_trees : (k : Keep) (f : Forest OutputUnit) → left_tree_count k f ≤ node_count f
fewer_trees k empty = omega arith
fewer_trees k (tree u below after) = few_at (at_least_one (node_count (left k (tree u below empty))))
    (left_tree_count k after) (node_count below) (node_count after) (fewer_trees k after)
