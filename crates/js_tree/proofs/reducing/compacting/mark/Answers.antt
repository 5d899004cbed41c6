use Rattle.std.proofs.Common.{◌≡◌, ℕ, ◌<◌, ◌≤◌, ◌+◌, ◌-◌, List, ◌++◌, length, drop}
use Rattle.std.proofs.Common.{get_or, map, refl, ap, ◌∙◌, arith, suc}
use Rattle.js_tree.specs.code.Compacting.{left, left_tree_count, marked_rows, stays, room}
use Rattle.js_tree.specs.Flat.{flat_of}
use Rattle.js_tree.specs.FlatState.{row_of}
use Rattle.js_tree.specs.Forest.{Forest, node_count}
use Rattle.js_tree.specs.OutputUnit.{OutputUnit}
use Rattle.js_tree.specs.declared.reducing.compacting.Keep.{Keep}
use Rattle.js_tree.specs.declared.collecting.flat.Row.{Row}
use Rattle.js_tree.proofs.Marks.{from, node_at, row_at, rows_of, marked_after, marks_one}
use Rattle.js_tree.proofs.Marks.{marked_alike, mark_start, tree_fits}
use Rattle.js_tree.proofs.RowsLeft.{fewer_left}
use Rattle.js_tree.proofs.reducing.compacting.mark.Goals as goal

-- the node of the row before i, where the rows from i on are marked
record NodeThere (keep : Keep) (rows : List Row) (i : ℕ) (x : Row) : Type 0 where
  below : Forest OutputUnit
  after : Forest OutputUnit
  size : (get_or rows (i - 1) x).size ≡ suc (node_count below)
  later : drop (i - 1 + 1) rows ≡ marked_rows keep below ++ marked_rows keep after

node_there : (keep : Keep) (rows : List Row) (f : Forest OutputUnit) (i : ℕ) (x : Row) → map row_of rows ≡ flat_of f
    → 0 < i → i ≤ length rows → drop i rows ≡ marked_rows keep (from i f) → NodeThere keep rows i x
node_there keep rows f i x e some most marked =
    let n = i - 1 in
    let h : n < length rows = omega arith in
    let next : suc n ≡ i = omega arith in
    let later : n + 1 ≡ suc n = omega arith in
    let a = node_at n f (let m = rows_of rows f e in omega (arith, m, h)) in
    record {
      below = a.below;
      after = a.after;
      size = ap (λ y. y.1) (row_at rows f n x e h a);
      later = ap (λ m. drop m rows) later ∙ marked_after keep rows f n a (rw (← next) at marked);
    }

pub loop-i-init : goal.loop-i-init
loop-i-init c = record { same = refl; marked = λ f e. mark_start c.args.keep c.args.rows.now f e }

pub overflow_add-i-in-loop-i : goal.overflow_add-i-in-loop-i
overflow_add-i-in-loop-i c =
    let l = c.loop-i in
    let w = tree_fits l.rows c.requires.0 (l.i - 1) c.index-rows-i.result
    (l.invariant.same ∙ c.requires.1) (omega arith) in
    omega (arith, w)

pub children-remaining-requires : goal.children-remaining-requires
children-remaining-requires c =
    let l = c.loop-i in let e = l.invariant.same ∙ c.requires.1 in
    let a = node_there c.args.keep l.rows c.requires.0 l.i c.index-rows-i.result e (omega arith) (omega arith)
    (l.invariant.marked c.requires.0 c.requires.1) in
    record {
      within = tree_fits l.rows c.requires.0 (l.i - 1) c.index-rows-i.result e (omega arith);
      marked = (c.args.keep, a.below, marked_rows c.args.keep a.after, a.later, omega (arith, a.size));
    }

pub room-room-requires : goal.room-room-requires
room-room-requires c =
    let l = c.loop-i in let e = l.invariant.same ∙ c.requires.1 in
    let a = node_there c.args.keep l.rows c.requires.0 l.i c.index-rows-i.result e (omega arith) (omega arith)
    (l.invariant.marked c.requires.0 c.requires.1) in
    let t = c.children-remaining.ensures c.args.keep a.below (marked_rows c.args.keep a.after) a.later
    (omega (arith, a.size)) in
    omega (arith, t.1, fewer_left c.args.keep a.below, a.size, c.index-rows-i.element_fits)

pub loop-i-preserved : goal.loop-i-preserved
loop-i-preserved c =
    let l = c.loop-i in
    let n = l.i - 1 in
    let h : n < length l.rows = omega arith in
    let next : suc n ≡ l.i = omega arith in
    let later : n + 1 ≡ suc n = omega arith in
    let d = c.index-rows-i-in-loop-i-2.result in
    record {
      same = marked_alike l.rows n d _ refl ∙ l.invariant.same;
      marked = λ f g.
          let e = l.invariant.same ∙ g in
          let a = node_at n f (let m = rows_of l.rows f e in omega (arith, m, h)) in
          let m : drop (suc n) l.rows
          ≡ marked_rows c.args.keep (from (suc n) f) = rw (← next) at (l.invariant.marked f g) in
          let at : (x : Row) → row_of (get_or l.rows n x)
          ≡ (a.unit, suc (node_count a.below)) = λ x. row_at l.rows f n x e h a in
          let s : (get_or l.rows n c.index-rows-i.result).size
          ≡ suc (node_count a.below) = ap (λ y. y.1) (at c.index-rows-i.result) in
          let t = c.children-remaining.ensures c.args.keep a.below (marked_rows c.args.keep a.after)
          (ap (λ m. drop m l.rows) later ∙ marked_after c.args.keep l.rows f n a m) (omega (arith, s)) in
          let b : c.stays-stays.result ≡ stays c.args.keep a.unit (left_tree_count c.args.keep a.below) =
          c.stays-stays.ensures ∙ (ap (λ y. stays c.args.keep y.0 c.children-remaining.result.trees)
          (at c.index-rows-i-in-loop-i.result) ∙ ap (stays c.args.keep a.unit) t.0) in
          let r : c.room-room.result ≡ room c.args.keep (stays c.args.keep a.unit (left_tree_count c.args.keep a.below))
          (node_count (left c.args.keep a.below)) =
          c.room-room.ensures ∙ (ap (λ y. room c.args.keep y c.children-remaining.result.nodes) b
          ∙ ap (room c.args.keep (stays c.args.keep a.unit (left_tree_count c.args.keep a.below))) t.1) in
          marks_one c.args.keep l.rows f n _ h a m (ap (λ y. y.0) (at d)) (ap (λ y. y.1) (at d)) r b;
    }
