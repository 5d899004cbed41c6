use Rattle.std.proofs.Common.{◌≡◌, ◌-◌, ◌++◌, OnOk, drop, length, map, slice_index_or, ap, sym, subst, ◌∙◌, arith}
use Rattle.std.proofs.lemmas.Result.{on_ok_weaker}
use borrow.Rule.Slice.PartMut.{put_mid}
use Rattle.js_tree.specs.Forest.{forest_of, ◌⊹◌}
use Rattle.js_tree.specs.Result.{ResultTree}
use Rattle.js_tree.proofs.ChildTexts.{rest_of}
use Rattle.js_tree.proofs.FlatRows.{shorter}
use Rattle.js_tree.specs.Rows.Locations.{HasRoom}
use Rattle.js_tree.specs.Rows.Relative.{escaped_tree}
use Rattle.js_tree.specs.Rows.RelativeState.{relative_row}
use Rattle.js_tree.proofs.RowsOfTrees.AddedRows.{fewer_left, still_there}
use Rattle.js_tree.proofs.RowsOfTrees.EscapedRows.{are_trees, next_tree, still_at}
use Rattle.js_tree.proofs.RowsOfTrees.PlacedRows.{first_again, node_placed, room_for_rest, rows_of_next, rows_of_one}
use Rattle.js_tree.proofs.RowsOfTrees.PlacedRows.{rows_under}
use Rattle.js_tree.proofs.RowsOfTrees.PlacedRows.{somewhere_below, still_entered, still_of_node, still_somewhere}
use Rattle.js_tree.proofs.RowsOfTrees.PlacedRows.{take_ends, take_goes_on, take_starts, there_and_back}
use Rattle.js_tree.proofs.WrittenRows.RelativeTexts.{back_again, room_for_part, stays_there}
use Rattle.js_tree.proofs.RowsOfTrees.RoomLeft.{fewer_below, room_below, some_row}
use Rattle.js_tree.proofs.rows.whole_tree.+take_trees.Goals as goal

pub take_tree-take_trees-requires : goal.take_tree-take_trees-requires
take_tree-take_trees-requires t c =
    let rows = c.args.rows.now in
    let u = c.requires.0 in
    let below = c.requires.1 in
    let one : ResultTree = record { root = u; below = below } in
    let h = rows_of_one rows u below c.requires.2 in
    let some = some_row rows (escaped_tree one) h in
    let x = slice_index_or rows 0 c.index-rows-0.result in
    let room = room_below c.args.locations.now c.go_to_node.new.self rows x c.requires.3 some
    (ap (slice_index_or rows 0) c.index-rows-0.is) c.go_to_node.ensures in (
      omega (arith, fewer_below rows some, c.decreases),
      (
        below,
        rows_under rows u below h,
        subst (HasRoom c.go_to_node.new.self) (sym (rest_of rows)) room,
        somewhere_below rows one x c.args.locations.now c.go_to_node.new.self h
            (ap (slice_index_or rows 0) c.index-rows-0.is) c.go_to_node.ensures c.requires.4,
      ),
    )

pub take_tree-add_node-requires : goal.take_tree-add_node-requires
take_tree-add_node-requires t c =
    let rows = c.args.rows.now in
    let w = c.requires.4 in
    let one : ResultTree = record { root = c.requires.0; below = c.requires.1 } in
    let y = slice_index_or (put_mid 1 (length rows - 1) rows c.take_trees.new.rows) 0 c.index-rows-0-2.result in
    still_of_node y one c.go_to_node.new.self c.take_trees.new.locations w.keyword w.instance
    (still_entered rows c.take_trees.new.rows one c.index-rows-0.result c.index-rows-0-2.result
    c.args.locations.now c.go_to_node.new.self c.take_trees.new.locations w.keyword w.instance
    (rows_of_one rows c.requires.0 c.requires.1 c.requires.2) c.index-rows-0.is w.there c.go_to_node.ensures
    c.in_ok-below.ensures.back)

pub take_tree-returns-clause-trees : goal.take_tree-returns-clause-trees
take_tree-returns-clause-trees t c =
    λ u below k i at e.
    let rows = c.args.rows.now in
    let h = rows_of_one rows u below e in
    let n = still_entered rows c.take_trees.new.rows (record { root = u; below = below }) c.index-rows-0.result
    c.index-rows-0-2.result c.args.locations.now c.go_to_node.new.self c.take_trees.new.locations k i h
    c.index-rows-0.is at c.go_to_node.ensures c.in_ok-below.ensures.back in
    let reported = c.in_ok-below.ensures.trees below (k ++ u.keyword) (i ++ u.instance) n.down
    (rows_under rows u below h) in
    subst (λ g. OnOk c.add_node.result (forest_of c.add_node.new.trees.items ≡ (forest_of c.args.trees.now.items ⊹ g)))
    (node_placed k i (slice_index_or (put_mid 1 (length rows - 1) rows c.take_trees.new.rows) 0 c.index-rows-0-2.result)
    u (forest_of c.in_ok-below.below.items) below n.root reported)
    (c.add_node.ensures.trees (k ++ u.keyword) u.absolute (i ++ u.instance) n.still n.absolute)

pub take_tree-returns-clause-back : goal.take_tree-returns-clause-back
take_tree-returns-clause-back t c =
    let rows = c.args.rows.now in
    let these = c.take_trees.new.rows in
    let one : ResultTree = record { root = c.requires.0; below = c.requires.1 } in
    let some = some_row rows (escaped_tree one) (rows_of_one rows c.requires.0 c.requires.1 c.requires.2) in
    let x = slice_index_or rows 0 c.index-rows-0.result in
    let y = slice_index_or (put_mid 1 (length rows - 1) rows these) 0 c.index-rows-0-2.result in
    let same : x ≡ y = first_again rows these (length rows - 1) c.index-rows-0.result c.index-rows-0-2.result some in
    on_ok_weaker c.add_node.result
    (λ up. there_and_back c.args.locations.now c.go_to_node.new.self c.take_trees.new.locations
    c.add_node.new.locations x y c.go_to_node.ensures c.in_ok-below.ensures.back up same)
    c.add_node.ensures.up

pub take_trees-loop-next-init : goal.take_trees-loop-next-init
take_trees-loop-next-init t c = (
  omega arith,
  stays_there c.args.locations.now,
  c.requires.2,
  λ f e. (f, e),
  λ f k i at e. take_starts k i _ c.args.rows.now f c.new-trees.ensures.items e,
)

pub take_trees-tree_end-next-requires-clause-trees : goal.take_trees-tree_end-next-requires-clause-trees
take_trees-tree_end-next-requires-clause-trees t' c =
    let w = c.loop-next.invariant.3 c.requires.0 c.requires.1 in
    are_trees _ w.0 w.1

pub take_trees-take_tree-requires : goal.take_trees-take_tree-requires
take_trees-take_tree-requires t' c =
    let l = c.loop-next in
    let w = l.invariant.3 c.requires.0 c.requires.1 in
    let t = next_tree _ _ _ _ w.1 c.loop-next-test.true c.tree_end-next.ensures.size in
    let size = c.tree_end-next.result - l.next in
    let room = room_for_part c.args.locations.now l.locations (drop l.next l.rows) 0 size
    l.invariant.2 l.invariant.1 in (
      omega (arith, shorter size l.next l.rows, l.auto.rows, c.decreases),
      (
        t.unit,
        t.below,
        rows_of_next _ _ _ _ t,
        room,
        still_somewhere c.args.locations.now l.locations l.invariant.1 c.requires.3,
      ),
    )

pub take_trees-loop-next-smaller : goal.take_trees-loop-next-smaller
take_trees-loop-next-smaller t' c =
    let w = c.loop-next.invariant.3 c.requires.0 c.requires.1 in fewer_left _ _ _ _ c.take_tree.new.rows
    (next_tree _ _ _ _ w.1 c.loop-next-test.true c.tree_end-next.ensures.size) c.take_tree.auto.rows

pub take_trees-loop-next-preserved : goal.take_trees-loop-next-preserved
take_trees-loop-next-preserved t' c =
    let l = c.loop-next in let old = c.args.locations.now in let end = c.tree_end-next in
    let w = l.invariant.3 c.requires.0 c.requires.1 in let there = still_there _ _ _ _ c.take_tree.new.rows
    (next_tree _ _ _ _ w.1 c.loop-next-test.true c.tree_end-next.ensures.size) c.take_tree.auto.rows in (
      omega (arith, there.count, end.ensures.fits),
      back_again old l.locations c.take_tree.new.locations l.invariant.1 c.in_ok-take_tree.ensures.back,
      subst (HasRoom old) (sym there.after)
          (room_for_rest old l.rows l.next end.result (omega (arith, end.ensures.further)) l.invariant.2),
      λ f e.
          let w = l.invariant.3 f e in
          let t = next_tree _ _ _ _ w.1 c.loop-next-test.true c.tree_end-next.ensures.size in
          (t.after, ap (map relative_row) there.after ∙ t.more),
      λ f k i at e.
          let w = l.invariant.4 f k i at e in
          let t = next_tree _ _ _ _ w.left_is c.loop-next-test.true c.tree_end-next.ensures.size in
          let reported = c.in_ok-take_tree.ensures.trees t.unit t.below k i
          (still_at old l.locations k i at l.invariant.1) (rows_of_next _ _ _ _ t) in
          take_goes_on k i (forest_of l.trees.items) (forest_of c.take_tree.new.trees.items) l.rows _ l.next f _ w
          t reported there.after,
    )

pub take_trees-returns-clause-trees : goal.take_trees-returns-clause-trees
take_trees-returns-clause-trees t c =
    λ f k i at e.
    let l = c.loop-next in
    take_ends k i (forest_of l.trees.items) l.rows l.next f (l.invariant.4 f k i at e)
    (omega (arith, c.loop-next-test.false))

pub take_trees-returns-clause-back : goal.take_trees-returns-clause-back
take_trees-returns-clause-back t c = c.loop-next.invariant.1
