-- Marked rows of a flat form, and those that they leave.
use Rattle.std.proofs.Common.{◌≡◌, ℕ, zero, suc, ◌+◌, ◌-◌, ◌≤◌, ◌<◌, Bool, true, false, ◌||◌, if◌then◌else◌, ◌⊎◌, inl}
use Rattle.std.proofs.Common.{inr, List, [], ◌∷◌, ◌++◌, length, take, drop, map, get_or, set, refl, ap, sym, ◌∙◌, arith}
use Rattle.std.proofs.lemmas.List.{append_assoc, append-nil, length-map, map-append, map-set, set-get_or}
use Rattle.std.proofs.lemmas.List.{drop_all, drop_more, drop-set, take-set-le, drop-set-lt, length-set, get_or-set_same}
use Rattle.std.proofs.Math.Seq.{drop-length}
use Rattle.std.specs.List.{swap}
use Rattle.js_tree.specs.code.Compacting.{left, left_of, left_tree_count, stays, room, marked_rows}
use Rattle.js_tree.specs.code.Compacting.{gone_with, gathered, IsRemaining, AreMarkedTrees}
use Rattle.js_tree.specs.Flat.{flat_form, flat_of}
use Rattle.js_tree.specs.FlatState.{FlatRow, row_of}
use Rattle.js_tree.specs.Forest.{Forest, empty, tree, ◌⊹◌, node_count}
use Rattle.js_tree.specs.Kept.{is_kept_node, kept_below}
use Rattle.js_tree.specs.OutputUnit.{OutputUnit, noted}
use Rattle.js_tree.specs.Pruned.{pruned_below}
use Rattle.js_tree.specs.Result.{ResultTree, has_verdict}
use Rattle.js_tree.specs.Rewrite.{at_least_one, at_least_two}
use Rattle.js_tree.specs.declared.reducing.compacting.Keep.{Keep}
use Rattle.js_tree.specs.declared.reducing.compacting.Keep.TheVariants.{Verdict, Noted}
use Rattle.js_tree.specs.declared.collecting.flat.Row.{Row}
use Rattle.js_tree.proofs.Compaction.{take-swap, drop-swap}
use Rattle.js_tree.proofs.FlatFormCollected.{length-flat_of}
use Rattle.js_tree.proofs.FlatRows.{flat_of-append, map-drop, drop-append, drop-drop}
use Rattle.js_tree.proofs.Forests.{node_count-append}
use Rattle.js_tree.proofs.RowsLeft.{marked_rows-append, length-marked_rows, node_count-left}
use Rattle.js_tree.proofs.RowsLeft.{left_tree_count-noted, room_is, fewer_left, fewer_trees, row_marked}

-- ---- the forest of the rows from one on

abbrev pub from : ℕ → Forest OutputUnit → Forest OutputUnit
from zero f = f
from (suc n) empty = empty
from (suc n) (tree u below after) = from n (below ⊹ after)

pub flat_of-from : (n : ℕ) (f : Forest OutputUnit) → flat_of (from n f) ≡ drop n (flat_of f)
flat_of-from zero f = refl
flat_of-from (suc n) empty = refl
flat_of-from (suc n) (tree u below after) = flat_of-from n (below ⊹ after) ∙ ap (drop n) (flat_of-append below after)

pub from-all : (n : ℕ) (f : Forest OutputUnit) → node_count f ≤ n → from n f ≡ empty
from-all zero empty h = refl
from-all zero (tree u below after) h = absurd (omega (arith, h))
from-all (suc n) empty h = refl
from-all (suc n) (tree u below after) h = from-all n (below ⊹ after) (omega (arith, h, node_count-append below after))

-- the node of a number, with what stands below it and after it
pub record At (n : ℕ) (f : Forest OutputUnit) : Type 0 where
  pub unit : OutputUnit
  pub below : Forest OutputUnit
  pub after : Forest OutputUnit
  pub is : from n f ≡ tree unit below after
  pub next : from (suc n) f ≡ (below ⊹ after)

pub node_at : (n : ℕ) (f : Forest OutputUnit) → n < node_count f → At n f
node_at zero empty h = absurd (omega (arith, h))
node_at zero (tree u below after) h = record { unit = u; below = below; after = after; is = refl; next = refl }
node_at (suc n) empty h = absurd (omega (arith, h))
node_at (suc n) (tree u below after) h =
    let a = node_at n (below ⊹ after) (omega (arith, h, node_count-append below after)) in
    record { unit = a.unit; below = a.below; after = a.after; is = a.is; next = a.next }

head_of : (x y : FlatRow) (xs ys : List FlatRow) → x ∷ xs ≡ y ∷ ys → x ≡ y
head_of x y xs ys e = cc

-- the row of that number is the node's
pub row_at : (rows : List Row) (f : Forest OutputUnit) (n : ℕ) (d : Row) → map row_of rows ≡ flat_of f → n < length rows
    → (a : At n f) → row_of (get_or rows n d) ≡ (a.unit, suc (node_count a.below))
row_at rows f n d e h a =
    head_of (row_of (get_or rows n d)) (a.unit, suc (node_count a.below)) (map row_of (drop (n + 1) rows))
    (flat_of a.below ++ flat_of a.after)
    (ap (map row_of) (sym (drop_more rows n d h)) ∙ (map-drop row_of n rows
    ∙ (ap (drop n) e ∙ (sym (flat_of-from n f) ∙ ap flat_of a.is))))

pub rows_of : (rows : List Row) (f : Forest OutputUnit) → map row_of rows ≡ flat_of f → length rows ≡ node_count f
rows_of rows f e = sym (length-map rows row_of) ∙ (ap length e ∙ length-flat_of f)

-- what stands after the row is marked, below the node and after it
pub marked_after : (k : Keep) (rows : List Row) (f : Forest OutputUnit) (n : ℕ) (a : At n f)
    → drop (suc n) rows ≡ marked_rows k (from (suc n) f)
    → drop (suc n) rows ≡ marked_rows k a.below ++ marked_rows k a.after
marked_after k rows f n a e = e ∙ (ap (marked_rows k) a.next ∙ marked_rows-append k a.below a.after)

plus_one : (n : ℕ) → n + 1 ≡ suc n
plus_one n = omega arith

row_is : (r : Row) (u : OutputUnit) (size room : ℕ) (stays : Bool) → r.unit ≡ u → r.size ≡ size → r.room ≡ room
    → r.stays ≡ stays → r ≡ record { unit = u; size = size; room = room; stays = stays }
row_is r u size room stays e f g h =
    ap (λ x. record { unit = x; size = r.size; room = r.room; stays = r.stays }) e
    ∙ (ap (λ x. record { unit = u; size = x; room = r.room; stays = r.stays }) f
    ∙ (ap (λ x. record { unit = u; size = size; room = x; stays = r.stays }) g
    ∙ ap (λ x. record { unit = u; size = size; room = room; stays = x }) h))

-- one row more is marked
pub marks_one : (k : Keep) (rows : List Row) (f : Forest OutputUnit) (n : ℕ) (new : Row) → n < length rows
    → (a : At n f) → drop (suc n) rows ≡ marked_rows k (from (suc n) f)
    → new.unit ≡ a.unit → new.size ≡ suc (node_count a.below)
    → new.room ≡ room k (stays k a.unit (left_tree_count k a.below)) (node_count (left k a.below))
    → new.stays ≡ stays k a.unit (left_tree_count k a.below)
    → drop n (set rows n new) ≡ marked_rows k (from n f)
marks_one k rows f n new h a m u s p q =
    drop-set rows n new h
    ∙ (ap (λ i. new ∷ drop i rows) (plus_one n)
    ∙ (ap (λ xs. new ∷ xs) (marked_after k rows f n a m)
    ∙ (ap (λ y. y ∷ (marked_rows k a.below ++ marked_rows k a.after))
    (row_is new a.unit (suc (node_count a.below)) (node_count (left k (tree a.unit a.below empty)))
    (stays k a.unit (left_tree_count k a.below)) u s (p ∙ room_is k a.unit a.below) q)
    ∙ ap (marked_rows k) (sym a.is))))

-- a row that is marked has the same node
pub marked_alike : (rows : List Row) (n : ℕ) (d new : Row) → row_of new ≡ row_of (get_or rows n d)
    → map row_of (set rows n new) ≡ map row_of rows
marked_alike rows n d new e =
    map-set row_of rows n new
    ∙ (ap (set (map row_of rows) n) e ∙ (sym (map-set row_of rows n (get_or rows n d))
    ∙ ap (map row_of) (set-get_or rows n d)))

-- before any row is marked
pub mark_start : (k : Keep) (rows : List Row) (f : Forest OutputUnit) → map row_of rows ≡ flat_of f
    → drop (length rows) rows ≡ marked_rows k (from (length rows) f)
mark_start k rows f e = let l = rows_of rows f e in
    drop-length rows ∙ ap (marked_rows k) (sym (from-all (length rows) f (omega (arith, l))))

pub node_count-from : (n : ℕ) (f : Forest OutputUnit) → n ≤ node_count f → n + node_count (from n f) ≡ node_count f
node_count-from zero f h = omega arith
node_count-from (suc n) empty h = absurd (omega (arith, h))
node_count-from (suc n) (tree u below after) h =
    let c = node_count-append below after in
    let r = node_count-from n (below ⊹ after) (omega (arith, h, c)) in omega (arith, r, c)

-- the node's tree ends within the rows
pub tree_fits : (rows : List Row) (f : Forest OutputUnit) (n : ℕ) (d : Row) → map row_of rows ≡ flat_of f
    → n < length rows → n + (get_or rows n d).size ≤ length rows
tree_fits rows f n d e h =
    let l = rows_of rows f e in
    let a = node_at n f (omega (arith, l, h)) in
    let s : (get_or rows n d).size ≡ suc (node_count a.below) = ap (λ y. y.1) (row_at rows f n d e h a) in
    let c : node_count (from n f) ≡ suc (node_count a.below + node_count a.after) = ap node_count a.is in
    omega (arith, l, s, c, node_count-from n f (omega (arith, l, h)))

-- ---- the marked rows of trees that are gone through one after another

there : (rows : List Row) (n : ℕ) (y : Row) (ys : List Row) → drop n rows ≡ y ∷ ys → n < length rows
there [] zero y ys e = absurd cc
there [] (suc n) y ys e = absurd cc
there (r ∷ rows) zero y ys e = omega arith
there (r ∷ rows) (suc n) y ys e = omega (arith, there rows n y ys e)

-- the tree whose rows come next
record Next (k : Keep) (rows rest : List Row) (g : Forest OutputUnit) (n : ℕ) (x : Row) : Type 0 where
  pub unit : OutputUnit
  pub below : Forest OutputUnit
  pub after : Forest OutputUnit
  pub is : g ≡ tree unit below after
  pub size : x.size ≡ suc (node_count below)
  pub room : x.room ≡ node_count (left k (tree unit below empty))
  pub more : drop (n + x.size) rows ≡ marked_rows k after ++ rest

cons_head : (x y : Row) (xs ys : List Row) → x ∷ xs ≡ y ∷ ys → x ≡ y
cons_head x y xs ys e = cc

cons_tail : (x y : Row) (xs ys : List Row) → x ∷ xs ≡ y ∷ ys → xs ≡ ys
cons_tail x y xs ys e = cc

next_tree : (k : Keep) (rows rest : List Row) (g : Forest OutputUnit) (n end : ℕ) (x : Row)
    → drop n rows ≡ marked_rows k g ++ rest → n + node_count g ≡ end → n < end → end ≤ length rows → x ≡ get_or rows n x
    → Next k rows rest g n x
next_tree k rows rest empty n end x d c h b e = absurd (omega (arith, c, h))
next_tree k rows rest (tree u below after) n end x d c h b e =
    let r = row_marked k u below in
    let p : get_or rows n x ∷ drop (n + 1) rows ≡ r ∷ ((marked_rows k below ++ marked_rows k after) ++ rest) =
    sym (drop_more rows n x (omega (arith, h, b))) ∙ d in
    let q : x ≡ r = e ∙ cons_head (get_or rows n x) r (drop (n + 1) rows)
    ((marked_rows k below ++ marked_rows k after) ++ rest) p in
    let s : x.size ≡ suc (node_count below) = ap (λ y. y.size) q in
    let i : n + x.size ≡ (n + 1) + length (marked_rows k below) = omega (arith, s, length-marked_rows k below) in
    record {
      unit = u;
      below = below;
      after = after;
      is = refl;
      size = s;
      room = ap (λ y. y.room) q;
      more =
          ap (λ m. drop m rows) i
          ∙ (drop-drop (n + 1) (length (marked_rows k below)) rows
          ∙ (ap (drop (length (marked_rows k below))) (cons_tail (get_or rows n x) r (drop (n + 1) rows)
          ((marked_rows k below ++ marked_rows k after) ++ rest) p
          ∙ append_assoc (marked_rows k below) (marked_rows k after) rest)
          ∙ drop-append (marked_rows k below) (marked_rows k after ++ rest)));
    }

some_left : (n : ℕ) → 0 < n → at_least_one n ≡ true
some_left zero h = absurd (omega (arith, h))
some_left (suc n) h = refl

none_left : (n : ℕ) → n ≡ 0 → at_least_one n ≡ false
none_left zero h = refl
none_left (suc n) h = absurd (omega (arith, h))

-- of one tree more something is left, or nothing is
one_tree : (k : Keep) (u : OutputUnit) (below after : Forest OutputUnit) → 0 < node_count (left k (tree u below empty))
    → left_tree_count k (tree u below after) ≡ suc (left_tree_count k after)
one_tree k u below after h = rw (some_left (node_count (left k (tree u below empty))) h) refl

no_tree : (k : Keep) (u : OutputUnit) (below after : Forest OutputUnit) → node_count (left k (tree u below empty)) ≡ 0
    → left_tree_count k (tree u below after) ≡ left_tree_count k after
no_tree k u below after h = rw (none_left (node_count (left k (tree u below empty))) h) refl

trees_at : (k : Keep) (g after below : Forest OutputUnit) (u : OutputUnit) (trees trees' all room : ℕ)
    → ((0 < room) × (trees' ≡ trees + 1)) ⊎ ((room ≡ 0) × (trees' ≡ trees))
    → left_tree_count k g ≡ left_tree_count k (tree u below after) → room ≡ node_count (left k (tree u below empty))
    → trees + left_tree_count k g ≡ all → trees' + left_tree_count k after ≡ all
trees_at k g after below u trees trees' all room (inl p) s r e = let o =
    one_tree k u below after (omega (arith, p.0, r)) in omega (arith, p.1, o, s, e)
trees_at k g after below u trees trees' all room (inr p) s r e = let o =
    no_tree k u below after (omega (arith, p.0, r)) in omega (arith, p.1, o, s, e)

pub remaining_more : (rows : List Row) (first end n trees nodes trees' : ℕ) (x : Row)
    → IsRemaining rows first end n trees nodes → n < end → end ≤ length rows → x ≡ get_or rows n x
    → ((0 < x.room) × (trees' ≡ trees + 1)) ⊎ ((x.room ≡ 0) × (trees' ≡ trees))
    → IsRemaining rows first end (n + x.size) trees' (nodes + x.room)
remaining_more rows first end n trees nodes trees' x i h b e w k f rest d c =
    let t = i k f rest d c in
    let q = next_tree k rows rest t.0 n end x t.1 t.2 h b e in
    let m : node_count t.0 ≡ suc (node_count q.below + node_count q.after) = ap node_count q.is in
    let l : node_count (left k t.0) ≡ node_count (left k (tree q.unit q.below empty)) + node_count (left k q.after) =
    ap (λ g. node_count (left k g)) q.is ∙ node_count-left k q.unit q.below q.after in
    let s : left_tree_count k t.0 ≡ left_tree_count k (tree q.unit q.below q.after) = ap (left_tree_count k) q.is in
    let r = q.room in
    let z = q.size in
    let y : trees' + left_tree_count k q.after ≡ left_tree_count k f =
    trees_at k t.0 q.after q.below q.unit trees trees' (left_tree_count k f) x.room w s r t.3 in
    (q.after, q.more, omega (arith, m, z, t.2), y, omega (arith, l, r, t.4))

left_empty : (k : Keep) → node_count (left k empty) ≡ 0
left_empty (Verdict v) = refl
left_empty Noted = refl

no_node : (f : Forest OutputUnit) → node_count f ≡ 0 → f ≡ empty
no_node empty e = refl
no_node (tree u below after) e = absurd (omega (arith, e))

pub remaining_all : (rows : List Row) (first end n trees nodes : ℕ) → IsRemaining rows first end n trees nodes → end ≤ n
    → (k : Keep) (f : Forest OutputUnit) (rest : List Row) → drop first rows ≡ marked_rows k f ++ rest
    → first + node_count f ≡ end
    → (trees ≡ left_tree_count k f) × (nodes ≡ node_count (left k f))
remaining_all rows first end n trees nodes i h k f rest d c =
    let t = i k f rest d c in
    let z : t.0 ≡ empty = no_node t.0 (let p = t.2 in omega (arith, p, h)) in
    let a : left_tree_count k t.0 ≡ 0 = ap (left_tree_count k) z in
    let b : node_count (left k t.0) ≡ 0 = ap (λ g. node_count (left k g)) z ∙ left_empty k in
    let p = t.3 in
    let q = t.4 in
    (omega (arith, p, a), omega (arith, q, b))

-- what is counted stays within the rows
pub remaining_fits : (rows : List Row) (first end n trees nodes : ℕ) (x : Row) → AreMarkedTrees rows first end
    → IsRemaining rows first end n trees nodes → n < end → end ≤ length rows → x ≡ get_or rows n x
    → (n + x.size ≤ end) × (n < n + x.size) × (nodes + x.room ≤ end) × (0 < x.room → trees + 1 ≤ end)
remaining_fits rows first end n trees nodes x m i h b e =
    let t = i m.0 m.1 m.2 m.3 m.4 in
    let q = next_tree m.0 rows m.2 t.0 n end x t.1 t.2 h b e in
    let c : node_count t.0 ≡ suc (node_count q.below + node_count q.after) = ap node_count q.is in
    let l : node_count (left m.0 t.0) ≡ node_count (left m.0 (tree q.unit q.below empty)) + node_count
    (left m.0 q.after) = ap (λ g. node_count (left m.0 g)) q.is ∙ node_count-left m.0 q.unit q.below q.after in
    let s = q.size in
    let r = q.room in
    let p = t.2 in
    let u = t.3 in
    let v = t.4 in
    let w = m.4 in (
      omega (arith, c, s, p),
      omega (arith, s),
      omega (arith, l, r, v, w, fewer_left m.0 m.1),
      λ z. let o : left_tree_count m.0 t.0 ≡ suc (left_tree_count m.0 q.after) = ap (left_tree_count m.0) q.is
          ∙ one_tree m.0 q.unit q.below q.after (omega (arith, z, r)) in omega (arith, o, u, w, fewer_trees m.0 m.1),
    )

-- ---- what marked rows leave

gathered-gone : (k : Keep) (xs ys : List Row) → gathered k (length xs) (xs ++ ys) ≡ gathered k 0 ys
gathered-gone k [] ys = refl
gathered-gone k (x ∷ xs) ys = gathered-gone k xs ys

-- of some rows and of those after them
both : (k : Keep) (xs ys rest : List Row) (fs gs : List FlatRow)
    → ((zs : List Row) → gathered k 0 (xs ++ zs) ≡ fs ++ gathered k 0 zs)
    → gathered k 0 (ys ++ rest) ≡ gs ++ gathered k 0 rest
    → gathered k 0 ((xs ++ ys) ++ rest) ≡ (fs ++ gs) ++ gathered k 0 rest
both k xs ys rest fs gs e f =
    ap (gathered k 0) (append_assoc xs ys rest)
    ∙ (e (ys ++ rest) ∙ (ap (λ zs. fs ++ zs) f ∙ sym (append_assoc fs gs (gathered k 0 rest))))

plus_none : (n : ℕ) → n + 0 ≡ n
plus_none n = omega arith

pruned_at : (b v : Bool) (u : OutputUnit) (below after : Forest OutputUnit) (rest : List Row) → has_verdict v u ≡ b
    → ((zs : List Row) → gathered (Verdict v) 0 (marked_rows (Verdict v) below ++ zs)
    ≡ flat_of (pruned_below (has_verdict v) below) ++ gathered (Verdict v) 0 zs)
    → gathered (Verdict v) 0 (marked_rows (Verdict v) after ++ rest)
    ≡ flat_of (pruned_below (has_verdict v) after) ++ gathered (Verdict v) 0 rest
    → gathered (Verdict v) 0 (marked_rows (Verdict v) (tree u below after) ++ rest)
    ≡ flat_of (pruned_below (has_verdict v) (tree u below after)) ++ gathered (Verdict v) 0 rest
pruned_at true v u below after rest e i j =
    rw e
    (ap (λ n. (u, suc n) ∷ gathered (Verdict v) 0 ((marked_rows (Verdict v) below ++ marked_rows (Verdict v) after)
    ++ rest)) (plus_none (node_count (pruned_below (has_verdict v) below)))
    ∙ ap (λ xs. (u, suc (node_count (pruned_below (has_verdict v) below))) ∷ xs)
    (both (Verdict v) (marked_rows (Verdict v) below) (marked_rows (Verdict v) after) rest
    (flat_of (pruned_below (has_verdict v) below)) (flat_of (pruned_below (has_verdict v) after)) i j))
pruned_at false v u below after rest e i j =
    let z : suc (node_count below) - 1 ≡ length (marked_rows (Verdict v) below) =
    omega (arith, length-marked_rows (Verdict v) below) in
    rw e
    (ap (λ n. gathered (Verdict v) n ((marked_rows (Verdict v) below ++ marked_rows (Verdict v) after) ++ rest)) z
    ∙ (ap (gathered (Verdict v) (length (marked_rows (Verdict v) below)))
    (append_assoc (marked_rows (Verdict v) below) (marked_rows (Verdict v) after) rest)
    ∙ (gathered-gone (Verdict v) (marked_rows (Verdict v) below) (marked_rows (Verdict v) after ++ rest) ∙ j)))

kept_at : (b : Bool) (u : OutputUnit) (below after : Forest OutputUnit) (rest : List Row)
    → (noted u || at_least_two (left_tree_count Noted below)) ≡ b → is_kept_node noted u below ≡ b
    → ((zs : List Row) → gathered Noted 0 (marked_rows Noted below ++ zs)
    ≡ flat_of (kept_below noted below) ++ gathered Noted 0 zs)
    → gathered Noted 0 (marked_rows Noted after ++ rest) ≡ flat_of (kept_below noted after) ++ gathered Noted 0 rest
    → gathered Noted 0 (marked_rows Noted (tree u below after) ++ rest)
    ≡ flat_of (kept_below noted (tree u below after)) ++ gathered Noted 0 rest
kept_at true u below after rest e f i j =
    rw (e, f)
    (ap (λ n. (u, suc n) ∷ gathered Noted 0 ((marked_rows Noted below ++ marked_rows Noted after) ++ rest))
    (plus_none (node_count (kept_below noted below)))
    ∙ ap (λ xs. (u, suc (node_count (kept_below noted below))) ∷ xs)
    (both Noted (marked_rows Noted below) (marked_rows Noted after) rest (flat_of (kept_below noted below))
    (flat_of (kept_below noted after)) i j))
kept_at false u below after rest e f i j =
    rw (e, f)
    (both Noted (marked_rows Noted below) (marked_rows Noted after) rest (flat_of (kept_below noted below))
    (flat_of (kept_below noted after)) i j
    ∙ ap (λ xs. xs ++ gathered Noted 0 rest) (sym (flat_of-append (kept_below noted below) (kept_below noted after))))

pub gathered-marked_rows : (k : Keep) (f : Forest OutputUnit) (rest : List Row)
    → gathered k 0 (marked_rows k f ++ rest) ≡ flat_of (left k f) ++ gathered k 0 rest
gathered-marked_rows (Verdict v) empty rest = refl
gathered-marked_rows Noted empty rest = refl
gathered-marked_rows (Verdict v) (tree u below after) rest =
    pruned_at (has_verdict v u) v u below after rest refl (λ zs. gathered-marked_rows (Verdict v) below zs)
    (gathered-marked_rows (Verdict v) after rest)
gathered-marked_rows Noted (tree u below after) rest =
    kept_at (is_kept_node noted u below) u below after rest
    (ap (λ n. noted u || at_least_two n) (left_tree_count-noted below)) refl
    (λ zs. gathered-marked_rows Noted below zs) (gathered-marked_rows Noted after rest)

-- ---- one row more is gone past

-- what is left when the rows before next are gone past: those in front, and what the others leave
abbrev pub gathered_past : Keep → List Row → ℕ → ℕ → ℕ → List FlatRow
gathered_past k rows count gone next = map row_of (take count rows) ++ gathered k gone (drop next rows)

-- one of the rows
pub a_row : (rows : List Row) (n : ℕ) → n < length rows → Row
a_row [] n h = absurd (omega (arith, h))
a_row (r ∷ rows) n h = r

pub goes_with : (k : Keep) (rows : List Row) (i n : ℕ) (d : Row) → 0 < n → i < length rows
    → gathered k (n - 1) (drop (i + 1) rows) ≡ gathered k n (drop i rows)
goes_with k rows i zero d h l = absurd (omega (arith, h))
goes_with k rows i (suc n) d h l =
    let z : suc n - 1 ≡ n = omega arith in
    ap (λ m. gathered k m (drop (i + 1) rows)) z ∙ ap (gathered k (suc n)) (sym (drop_more rows i d l))

gathered_at : (k : Keep) (r : Row) (rows : List Row) (b : Bool) → r.stays ≡ b
    → gathered k 0 (r ∷ rows)
    ≡ (if b then (r.unit, r.room) ∷ gathered k 0 rows else gathered k (gone_with k r.size) rows)
gathered_at k r rows b e = rw e refl

pub goes : (k : Keep) (rows : List Row) (i m : ℕ) (d : Row) → i < length rows → (get_or rows i d).stays ≡ false
    → m ≡ gone_with k (get_or rows i d).size → gathered k m (drop (i + 1) rows) ≡ gathered k 0 (drop i rows)
goes k rows i m d l e f =
    ap (λ n. gathered k n (drop (i + 1) rows)) f ∙ (sym (gathered_at k (get_or rows i d) (drop (i + 1) rows) false e)
    ∙ ap (gathered k 0) (sym (drop_more rows i d l)))

pub stays_here : (k : Keep) (rows : List Row) (count i : ℕ) (d new : Row) → count ≤ i → i < length rows
    → (get_or rows i d).stays ≡ true → row_of new ≡ ((get_or rows i d).unit, (get_or rows i d).room)
    → gathered_past k (swap (set rows i new) count i) (count + 1) 0 (i + 1) ≡ gathered_past k rows count 0 i
stays_here k rows count i d new c l e f =
    let one = set rows i new in
    let m : i < length one = simp length-set l in
    let past : i < i + 1 = omega arith in
    let front : take (count + 1) (swap one count i) ≡ take count rows ++ new ∷ [] =
    take-swap one count i d c m ∙ (ap (λ xs. xs ++ get_or one i d ∷ []) (take-set-le count rows i new c)
    ∙ ap (λ x. take count rows ++ x ∷ []) (get_or-set_same rows i new d l)) in
    let back : drop (i + 1) (swap one count i) ≡ drop (i + 1) rows = drop-swap one count i d c m
    ∙ drop-set-lt (i + 1) rows i new past in
    let g : gathered k 0 (drop i rows) ≡ ((get_or rows i d).unit, (get_or rows i d).room)
    ∷ gathered k 0 (drop (i + 1) rows) =
    ap (gathered k 0) (drop_more rows i d l) ∙ gathered_at k (get_or rows i d) (drop (i + 1) rows) true e in
    ap (λ xs. map row_of xs ++ gathered k 0 (drop (i + 1) (swap one count i))) front
    ∙ (ap (λ xs. map row_of (take count rows ++ new ∷ []) ++ gathered k 0 xs) back
    ∙ (ap (λ xs. xs ++ gathered k 0 (drop (i + 1) rows)) (map-append row_of (take count rows) (new ∷ []))
    ∙ (append_assoc (map row_of (take count rows)) (row_of new ∷ []) (gathered k 0 (drop (i + 1) rows))
    ∙ (ap (λ y. map row_of (take count rows) ++ y ∷ gathered k 0 (drop (i + 1) rows)) f
    ∙ ap (λ xs. map row_of (take count rows) ++ xs) (sym g)))))

-- ---- the whole

pub flat_form-flat_of : (t : ResultTree) → flat_form t ≡ flat_of (tree t.root t.below empty)
flat_form-flat_of t = ap (λ xs. (t.root, suc (node_count t.below)) ∷ xs) (sym (append-nil (flat_of t.below)))

take_drop_one : (k : Keep) (t : ResultTree) (rows : List Row) → rows ≡ marked_rows k (tree t.root t.below empty)
    → map row_of (take 1 rows) ++ gathered k 0 (drop 1 rows)
    ≡ (t.root, suc (node_count t.below)) ∷ flat_of (left k t.below)
take_drop_one k t rows e =
    ap (λ xs. map row_of (take 1 xs) ++ gathered k 0 (drop 1 xs)) e
    ∙ ap (λ xs. (t.root, suc (node_count t.below)) ∷ xs)
    (gathered-marked_rows k t.below [] ∙ append-nil (flat_of (left k t.below)))

tail_of : (x y : FlatRow) (xs ys : List FlatRow) → x ∷ xs ≡ y ∷ ys → xs ≡ ys
tail_of x y xs ys e = cc

take_length : (n : ℕ) (rows : List Row) → n ≤ length rows → length (take n rows) ≡ n
take_length zero rows h = refl
take_length (suc n) [] h = absurd (omega (arith, h))
take_length (suc n) (r ∷ rows) h = ap suc (take_length n rows (omega (arith, h)))

pub take_all : {R : Type 0} (n : ℕ) (rows : List R) → length rows ≤ n → take n rows ≡ rows
take_all zero [] h = refl
take_all zero (r ∷ rows) h = absurd (omega (arith, h))
take_all (suc n) [] h = refl
take_all (suc n) (r ∷ rows) h = ap (λ xs. r ∷ xs) (take_all n rows (omega (arith, h)))

-- a list whose slice was written
pub whole_slice : (n : ℕ) (new old : List Row) → length new ≡ length old → n ≡ length old
    → take n (new ++ drop (length new) old) ≡ new
whole_slice n new old e f =
    ap (λ xs. take n (new ++ xs)) (drop_all (length new) old (omega (arith, e)))
    ∙ (ap (take n) (append-nil new) ∙ take_all n new (omega (arith, e, f)))

root_sized : (rows : List Row) (u : OutputUnit) (size count : ℕ) (fs : List FlatRow) (d new : Row)
    → map row_of rows ≡ (u, size) ∷ fs → row_of new ≡ ((get_or rows 0 d).unit, count)
    → map row_of (set rows 0 new) ≡ (u, count) ∷ fs
root_sized [] u size count fs d new e f = absurd cc
root_sized (r ∷ rows) u size count fs d new e f =
    let p : row_of r ≡ (u, size) = head_of (row_of r) (u, size) (map row_of rows) fs e in
    let q : map row_of rows ≡ fs = tail_of (row_of r) (u, size) (map row_of rows) fs e in
    ap (λ y. y ∷ map row_of rows) (f ∙ ap (λ y. (y.0, count)) p) ∙ ap (λ xs. (u, count) ∷ xs) q

pub keeps : (k : Keep) (t : ResultTree) (marks all front : List Row) (count : ℕ) (d new : Row)
    → marks ≡ marked_rows k (tree t.root t.below empty)
    → map row_of (take count all) ≡ map row_of (take 1 marks) ++ gathered k 0 (drop 1 marks)
    → count ≤ length all → front ≡ take count all → row_of new ≡ ((get_or front 0 d).unit, count)
    → map row_of (set front 0 new) ≡ flat_form (left_of k t)
keeps k t marks all front count d new m g c f e =
    let w : map row_of front ≡ (t.root, suc (node_count t.below)) ∷ flat_of (left k t.below) = ap (map row_of) f
    ∙ (g ∙ take_drop_one k t marks m) in
    let n : length front ≡ count = ap length f ∙ take_length count all c in
    let l : length front ≡ suc (node_count (left k t.below)) = sym (length-map front row_of)
    ∙ (ap length w ∙ ap suc (length-flat_of (left k t.below))) in
    root_sized front t.root (suc (node_count t.below)) count (flat_of (left k t.below)) d new w e
    ∙ ap (λ i. (t.root, i) ∷ flat_of (left k t.below)) (sym n ∙ l)
