use Rattle.std.proofs.Common.{◌-◌, ◌++◌, length, slice_index_or, ap, ap₂, sym, subst, ◌∙◌}
use borrow.Rule.Slice.PartMut.{put_mid}
use Rattle.js_tree.specs.Forest.{forest_of}
use Rattle.js_tree.specs.Seen.{note_of}
use Rattle.js_tree.proofs.ChildTexts.{rest_of}
use Rattle.js_tree.specs.Rows.Locations.{HasRoom}
use Rattle.js_tree.specs.Rows.Relative.{escaped_tree}
use Rattle.js_tree.proofs.RowsOfTrees.PlacedRows.{rows_under, somewhere_below, still_entered, still_of_node, with_head}
use Rattle.js_tree.proofs.WrittenRows.RelativeTexts.{unit_is_there}
use Rattle.js_tree.proofs.RowsOfTrees.RoomLeft.{room_below, some_row}
use Rattle.js_tree.proofs.rows.whole_tree.take_root.Goals as goal

pub take_trees-requires : goal.take_trees-requires
take_trees-requires c =
    let rows = c.args.rows.now in
    let r = c.requires.0 in
    let h = c.requires.1 in
    let some = some_row rows (escaped_tree r) h in
    let x = slice_index_or rows 0 c.index-rows-0.result in
    let room = room_below c.args.locations.now c.go_to_node.new.self rows x c.requires.2 some
    (ap (slice_index_or rows 0) c.index-rows-0.is) c.go_to_node.ensures in
    let somewhere = somewhere_below rows r x c.args.locations.now c.go_to_node.new.self h
    (ap (slice_index_or rows 0) c.index-rows-0.is) c.go_to_node.ensures c.requires.3 in (
      r.below,
      rows_under rows r.root r.below h,
      subst (HasRoom c.go_to_node.new.self) (sym (rest_of rows)) room,
      somewhere,
    )

pub head-requires : goal.head-requires
head-requires c =
    let rows = c.args.rows.now in
    let w = c.requires.3 in
    let y = slice_index_or (put_mid 1 (length rows - 1) rows c.take_trees.new.rows) 0 c.index-rows-0-2.result in
    still_of_node y c.requires.0 c.go_to_node.new.self c.take_trees.new.locations w.keyword w.instance
    (still_entered rows c.take_trees.new.rows c.requires.0 c.index-rows-0.result c.index-rows-0-2.result
    c.args.locations.now c.go_to_node.new.self c.take_trees.new.locations w.keyword w.instance c.requires.1
    c.index-rows-0.is w.there c.go_to_node.ensures c.in_ok-below.ensures.back)

pub returns : goal.returns
returns c =
    λ r k i at h.
    let rows = c.args.rows.now in
    let u = r.root in
    let n = still_entered rows c.take_trees.new.rows r c.index-rows-0.result c.index-rows-0-2.result
    c.args.locations.now c.go_to_node.new.self c.take_trees.new.locations k i h c.index-rows-0.is at
    c.go_to_node.ensures c.in_ok-below.ensures.back in
    let reported = c.in_ok-below.ensures.trees r.below (k ++ u.keyword) (i ++ u.instance) n.down
    (rows_under rows u r.below h) in
    let head = c.in_ok-head.ensures (k ++ u.keyword) u.absolute (i ++ u.instance) n.still n.absolute in
    let y = slice_index_or (put_mid 1 (length rows - 1) rows c.take_trees.new.rows) 0 c.index-rows-0-2.result in
    let moved = with_head y (k ++ u.keyword) u.absolute (i ++ u.instance) _ _ _ (forest_of c.in_ok-below.below.items) _
    head.0 head.1 head.2 (ap note_of c.replace-note.ensures.value) in
    c.of_node.ensures ∙ (moved ∙ ap₂ (λ v g. record { root = v; below = g }) (unit_is_there k i y u n.root) reported)
