use Rattle.std.proofs.Common.{[], sym, subst}
use Rattle.js_doc.specs.BytesOut.{Puts}
use Rattle.js_tree.proofs.Pieces.{then_puts, stops_in}
use Rattle.js_tree.specs.Rows.Locations.{HasRoom}
use Rattle.js_tree.specs.Rows.Marks.{whole_of}
use Rattle.js_tree.proofs.RowsOfTrees.EscapedRows.{still_at_root}
use Rattle.js_tree.proofs.WrittenRows.ListedRows.{basic_by_first, whole_rows_of}
use Rattle.js_tree.proofs.WrittenRows.RelativeTexts.{room_still}
use Rattle.js_tree.proofs.formats.basic.put_basic.Goals as goal

pub returns-in_err-put_units_start : goal.returns-in_err-put_units_start
returns-in_err-put_units_start g c =
    λ t h.
    let o = g.O.Out.progress in
    subst (λ l. Puts (o c.args.out.now) (o c.put_units_start.new.out) l c.from_residual.result)
    (basic_by_first c.args.rows.now t _ _ c.as_slice-rows.ensures.value c.index-rows-0.is h)
    (stops_in _ _ _ _ _ c.from_residual.ensures.0 c.in_err-put_units_start.ensures)

pub list_trees-requires : goal.list_trees-requires
list_trees-requires g c =
    let t = c.requires.whole.0 in
    let is = c.as_slice-rows.ensures.value in
    let room = room_still c.args.locations c.take_gathered-gathered.new.self c.as_slice-rows.result.now
    (subst (HasRoom c.args.locations) (sym is) c.requires.room.room) c.take_gathered-gathered.ensures in
    (whole_of t, whole_rows_of c.args.rows.now t c.as_slice-rows.result.now is c.requires.whole.1, room)

pub returns-in_err-list_trees : goal.returns-in_err-list_trees
returns-in_err-list_trees g c =
    λ t h.
    let o = g.O.Out.progress in
    let root = still_at_root c.args.locations _ c.args.rows.now c.requires.room c.take_gathered-gathered.ensures in
    let reported = c.in_err-list_trees.ensures.listed (whole_of t) [] [] root
    (whole_rows_of c.args.rows.now t _ c.as_slice-rows.ensures.value h) in
    subst (λ l. Puts (o c.args.out.now) (o c.list_trees.new.out) l c.from_residual-in_err-list_trees.result)
    (basic_by_first c.args.rows.now t _ _ c.as_slice-rows.ensures.value c.index-rows-0.is h)
    (then_puts _ _ _ _ _ _ c.in_ok-put_units_start.ensures
    (stops_in _ _ _ _ _ c.from_residual-in_err-list_trees.ensures.0 reported))

pub returns : goal.returns
returns g c =
    λ t h.
    let o = g.O.Out.progress in
    let root = still_at_root c.args.locations _ c.args.rows.now c.requires.room c.take_gathered-gathered.ensures in
    subst (λ l. Puts (o c.args.out.now) (o c.put_list_end.new.out) l c.put_list_end.result)
    (basic_by_first c.args.rows.now t _ _ c.as_slice-rows.ensures.value c.index-rows-0.is h)
    (then_puts _ _ _ _ _ _ c.in_ok-put_units_start.ensures
    (then_puts _ _ _ _ _ _
    (c.in_ok-list_trees.ensures.listed (whole_of t) [] [] root
    (whole_rows_of c.args.rows.now t _ c.as_slice-rows.ensures.value h)).goes
    c.put_list_end.ensures))
