use Rattle.std.proofs.Common.{◌≡◌, ◌-◌, [], OnOk, length, map, slice_index_or, refl, ap, sym, subst, ◌∙◌, arith}
use Rattle.js_tree.specs.Forest.{empty, tree}
use Rattle.js_tree.proofs.FlatRows.{none_below, root_row, shorter}
use Rattle.js_tree.specs.Rows.Relative.{escaped_tree, placed_unit}
use Rattle.js_tree.specs.Rows.RelativeState.{relative_row}
use Rattle.js_tree.specs.code.KeptBetween.{AreAdded, kept_between}
use Rattle.js_tree.proofs.RowsOfTrees.AddedRows.{add_ends, add_goes_on, add_starts, below_set, fewer_left, fewer_set}
use Rattle.js_tree.proofs.RowsOfTrees.AddedRows.{node_added}
use Rattle.js_tree.proofs.RowsOfTrees.AddedRows.{more_rows, none_pending, same_parts, still_pending_at, still_there}
use Rattle.js_tree.proofs.RowsOfTrees.EscapedRows.{are_trees, next_tree, none_of}
use Rattle.js_tree.proofs.RowsOfTrees.KeptBetween.{node_goes}
use Rattle.js_tree.proofs.RowsOfTrees.MarkedRows.{as_many, first_mark, flat_rows, marked_below, marked_next}
use Rattle.js_tree.proofs.RowsOfTrees.MarkedRows.{next_marks, root_mark}
use Rattle.js_tree.proofs.RowsOfTrees.RoomLeft.{fewer_below, some_row}
use Rattle.js_tree.proofs.rows.keeping.Keeper.+keep_trees.Goals as goal

pub keep_below-keep_trees-requires : goal.keep_below-keep_trees-requires
keep_below-keep_trees-requires t c =
    let h = c.requires.3 in
    let some = some_row c.args.rows.now (escaped_tree _) (flat_rows _ _ _ _ _ h) in
    (omega (arith, fewer_below _ some, c.decreases), (c.requires.0, c.requires.2, marked_below _ _ _ _ _ h))

pub keep_node-keep_trees-requires : goal.keep_node-keep_trees-requires
keep_node-keep_trees-requires t c =
    let h = c.requires.3 in
    let some = some_row c.args.rows.now (escaped_tree _) (flat_rows _ _ _ _ _ h) in
    let x = c.add_row-2.new.row in
    (omega (arith, fewer_set _ x some, c.decreases), (c.requires.0, c.requires.2, below_set _ x _ _ _ _ h))

pub keep_node-overflow_sub-size : goal.keep_node-overflow_sub-size
keep_node-overflow_sub-size t c =
    let kept = c.keep_trees.new.self.kept in
    let marked = below_set _ c.add_row-2.new.row _ _ _ _ c.requires.3 in
    let reported = c.in_ok-keep_trees.ensures.rows _ _ [] [] (none_pending _ _ c.end-end.ensures) marked in
    let more = more_rows c.args.self.now.kept.items _ kept.items (kept_between c.requires.0 [] [] c.requires.2)
    c.in_ok-add_row.ensures.count reported in
    omega (arith, more, c.len-number.ensures, c.len.ensures, c.args.self.now.kept.ok.0, kept.ok.0)

pub keep_node-index_mut-row-requires : goal.keep_node-index_mut-row-requires
keep_node-index_mut-row-requires t c =
    let kept = c.keep_trees.new.self.kept in
    let marked = below_set _ c.add_row-2.new.row _ _ _ _ c.requires.3 in
    let reported = c.in_ok-keep_trees.ensures.rows _ _ [] [] (none_pending _ _ c.end-end.ensures) marked in
    let more = more_rows c.args.self.now.kept.items _ kept.items (kept_between c.requires.0 [] [] c.requires.2)
    c.in_ok-add_row.ensures.count reported in
    omega (arith, more, c.len-number.ensures, c.args.self.now.kept.ok.0, kept.ok.0)

pub keep_node-returns-then-count-eq1-clause-rows : goal.keep_node-returns-then-count-eq1-clause-rows
keep_node-returns-then-count-eq1-clause-rows t c =
    λ v u below k i p h.
    let rows = c.args.rows.now in
    let flat = flat_rows rows c.args.marks.now v u below h in
    let one = escaped_tree (record { root = u; below = below }) in
    let first = slice_index_or rows 0 c.index-rows-0.result in
    let root = root_row relative_row rows one first flat (ap (slice_index_or rows 0) c.index-rows-0.is) in
    let none = none_of below (none_below relative_row rows one flat (omega (arith, c.if-count-eq1.true))) in
    subst (λ f. OnOk c.add_row.result (AreAdded c.args.self.now.kept.items c.add_row.new.kept.items
    (tree (placed_unit k i u) (kept_between v [] [] f) empty)))
    (sym none) (c.add_row.ensures.row u k i p root)

pub keep_node-returns-clause-rows : goal.keep_node-returns-clause-rows
keep_node-returns-clause-rows t c =
    λ v u below k i p h.
    let rows = c.args.rows.now in
    let marks = c.args.marks.now in
    let old = c.args.self.now.kept.items in
    let mid = c.add_row-2.new.kept.items in
    let new = c.keep_trees.new.self.kept.items in
    let first = slice_index_or rows 0 c.index-rows-0-2.result in
    let root = root_row relative_row rows (escaped_tree (record { root = u; below = below })) first
    (flat_rows rows marks v u below h) (ap (slice_index_or rows 0) c.index-rows-0-2.is) in
    let row = c.in_ok-add_row.ensures.row u k i p root in
    let reported = c.in_ok-keep_trees.ensures.rows v below [] [] (none_pending c.add_row-2.new.self c.end-end.result
    c.end-end.ensures) (below_set rows c.add_row-2.new.row marks v u below h) in
    let number : c.len-number.result ≡ length old = c.len-number.ensures ∙ c.args.self.now.kept.ok.0 in
    let size : c.len.result - c.len-number.result ≡ length new - c.len-number.result =
    ap (λ n. n - c.len-number.result) (c.len.ensures ∙ c.keep_trees.new.self.kept.ok.0) in
    let same = ap (λ r. (relative_row r).0) c.index_mut-row.ensures.value in
    node_added old mid new _ _ c.len-number.result (placed_unit k i u) (kept_between v [] [] below) row
    c.in_ok-add_row.ensures.count reported number same size

pub keep_tree-keep_node-requires : goal.keep_tree-keep_node-requires
keep_tree-keep_node-requires t c = (omega (arith, c.decreases), c.requires)

pub keep_tree-keep_below-requires : goal.keep_tree-keep_below-requires
keep_tree-keep_below-requires t c = (omega (arith, c.decreases), c.requires)

pub keep_tree-returns-then-some-clause-rows : goal.keep_tree-returns-then-some-clause-rows
keep_tree-returns-then-some-clause-rows t c =
    λ v u below k i p h.
    let rows = c.args.rows.now in
    let marks = c.args.marks.now in
    subst (λ f. OnOk c.keep_below.result (AreAdded c.args.self.now.kept.items c.keep_below.new.self.kept.items f))
    (sym (node_goes v k i u below (first_mark marks) (root_mark rows marks v u below h)
    c.if-stays.false c.if-some.true))
    (c.keep_below.ensures.rows v u below k i p h)

pub keep_trees-loop-next-init : goal.keep_trees-loop-next-init
keep_trees-loop-next-init t c = (
  omega arith,
  record { parts = record { keyword = refl; instance = refl }; start = refl },
  λ v f h. (f, h.rows_are, h.marks_are),
  λ v f k i p h. add_starts v k i c.args.self.now.kept.items c.args.rows.now c.args.marks.now f h,
)

pub keep_trees-tree_end-next-requires-clause-trees : goal.keep_trees-tree_end-next-requires-clause-trees
keep_trees-tree_end-next-requires-clause-trees t' c =
    let w = c.loop-next.invariant.2 c.requires.0 c.requires.1 c.requires.2 in
    are_trees _ w.0 w.1

pub keep_trees-slice_bounds-keep_tree-end-in-loop-next : goal.keep_trees-slice_bounds-keep_tree-end-in-loop-next
keep_trees-slice_bounds-keep_tree-end-in-loop-next t' c =
    omega (
      arith,
      c.tree_end-next.ensures.fits,
      c.loop-next.auto.rows,
      as_many c.args.rows.now c.args.marks.now
          c.requires.0 c.requires.1 c.requires.2,
    )

pub keep_trees-keep_tree-requires : goal.keep_trees-keep_tree-requires
keep_trees-keep_tree-requires t' c =
    let l = c.loop-next in
    let w = l.invariant.2 c.requires.0 c.requires.1 c.requires.2 in
    let t = next_tree _ _ _ _ w.1 c.loop-next-test.true c.tree_end-next.ensures.size in (
      omega (arith, shorter (c.tree_end-next.result - l.next) l.next l.rows, l.auto.rows, c.decreases),
      (c.requires.0, t.unit, t.below, marked_next c.requires.0 c.args.marks.now _ _ _ _ t w.2),
    )

pub keep_trees-loop-next-smaller : goal.keep_trees-loop-next-smaller
keep_trees-loop-next-smaller t' c =
    let w = c.loop-next.invariant.2 c.requires.0 c.requires.1 c.requires.2 in fewer_left _ _ _ _ c.keep_tree.new.rows
    (next_tree _ _ _ _ w.1 c.loop-next-test.true c.tree_end-next.ensures.size) c.keep_tree.auto.rows

pub keep_trees-loop-next-preserved : goal.keep_trees-loop-next-preserved
keep_trees-loop-next-preserved t' c =
    let l = c.loop-next in let marks = c.args.marks.now in let old = c.args.self.now.between in
    let w = l.invariant.2 c.requires.0 c.requires.1 c.requires.2 in let there = still_there _ _ _ _ c.keep_tree.new.rows
    (next_tree _ _ _ _ w.1 c.loop-next-test.true c.tree_end-next.ensures.size) c.keep_tree.auto.rows in (
      omega (arith, there.count, c.tree_end-next.ensures.fits),
      record {
        parts = same_parts old l.self.between c.keep_tree.new.self.between l.invariant.1.parts
            c.in_ok-keep_tree.ensures.same.parts;
        start = c.in_ok-keep_tree.ensures.same.start ∙ l.invariant.1.start;
      },
      λ v f h.
          let w = l.invariant.2 v f h in
          let t = next_tree _ _ _ _ w.1 c.loop-next-test.true c.tree_end-next.ensures.size in
          (t.after, ap (map relative_row) there.after ∙ t.more, (next_marks v marks _ _ _ _ t w.2).more),
      λ v f k i p h.
          let w = l.invariant.3 v f k i p h in
          let t = next_tree _ _ _ _ w.left_is c.loop-next-test.true c.tree_end-next.ensures.size in
          let reported = c.in_ok-keep_tree.ensures.rows v t.unit t.below k i (still_pending_at old l.self.between
          c.args.self.now.start l.self.start k i p l.invariant.1.parts l.invariant.1.start)
          (marked_next v marks _ _ _ _ t w.marks_are) in
          add_goes_on v k i c.args.self.now.kept.items l.self.kept.items c.keep_tree.new.self.kept.items l.rows _ marks
          l.next f _ w t reported there.after,
    )

pub keep_trees-returns-clause-rows : goal.keep_trees-returns-clause-rows
keep_trees-returns-clause-rows t c =
    λ v f k i p h.
    let l = c.loop-next in
    add_ends v k i c.args.self.now.kept.items l.self.kept.items l.rows c.args.marks.now l.next f
    (l.invariant.3 v f k i p h) (omega (arith, c.loop-next-test.false))

pub keep_trees-returns-clause-same : goal.keep_trees-returns-clause-same
keep_trees-returns-clause-same t c = c.loop-next.invariant.1
