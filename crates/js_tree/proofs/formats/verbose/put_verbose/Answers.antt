use Rattle.std.proofs.Common.{[], map, ap, subst, sym, ◌∙◌}
use Rattle.js_doc.specs.BytesOut.{Puts}
use Rattle.js_doc.specs.Compact.{compact}
use Rattle.js_tree.specs.Form.{verbose}
use Rattle.js_tree.specs.Rows.Locations.{HasRoom}
use Rattle.js_tree.specs.Rows.Relative.{relative_tree}
use Rattle.js_tree.specs.Rows.RelativeState.{relative_row}
use Rattle.js_tree.proofs.RowsOfTrees.EscapedRows.{still_at_root}
use Rattle.js_tree.proofs.WrittenRows.Gathering.{rest_goes, stopped_before}
use Rattle.js_tree.proofs.RowsOfTrees.Placing.{placed_tree_again}
use Rattle.js_tree.proofs.WrittenRows.RelativeTexts.{room_still}
use Rattle.js_tree.proofs.formats.verbose.put_verbose.Goals as goal

pub put_tree-requires : goal.put_tree-requires
put_tree-requires g c =
    let t = c.requires.whole.0 in
    let is = c.as_slice-rows.ensures.value in (
      relative_tree t,
      ap (map relative_row) is ∙ ap (λ s. s.rows) c.requires.whole.1.rows_are,
      room_still c.args.locations c.take_gathered-gathered.new.self c.as_slice-rows.result.now
          (subst (HasRoom c.args.locations) (sym is) c.requires.room.room) c.take_gathered-gathered.ensures,
    )

pub returns-in_err-put_tree : goal.returns-in_err-put_tree
returns-in_err-put_tree g c =
    λ t are.
    let o = g.O.Out.progress in
    let rows_are = ap (map relative_row) c.as_slice-rows.ensures.value ∙ ap (λ s. s.rows) are.rows_are in
    let at = still_at_root c.args.locations _ c.args.rows.now c.requires.room c.take_gathered-gathered.ensures in
    let r = c.from_residual.result in
    subst (λ t. Puts (o c.args.out.now) (o c.put_tree.new.out) (compact (verbose t)) r)
    (placed_tree_again t are.located)
    (stopped_before (o c.args.out.now) (o c.put_tree.new.out) c.clear.new.self.text.items _ r c.clear.ensures
    c.from_residual.ensures.0 (c.in_err-put_tree.ensures.text (relative_tree t) [] [] at rows_are))

pub returns : goal.returns
returns g c =
    λ t are.
    let o = g.O.Out.progress in
    let rows_are = ap (map relative_row) c.as_slice-rows.ensures.value ∙ ap (λ s. s.rows) are.rows_are in
    let at = still_at_root c.args.locations _ c.args.rows.now c.requires.room c.take_gathered-gathered.ensures in
    let r = c.put.result in
    let rest = subst (λ l. Puts (o c.put_tree.new.out) (o c.put.new.self) l r) c.as_slice.ensures c.put.ensures in
    subst (λ t. Puts (o c.args.out.now) (o c.put.new.self) (compact (verbose t)) r) (placed_tree_again t are.located)
    (rest_goes (o c.args.out.now) (o c.put_tree.new.out) (o c.put.new.self) c.clear.new.self.text.items
    c.put_tree.new.self.gathered.text.items _ r c.clear.ensures
    (c.in_ok-put_tree.ensures.text (relative_tree t) [] [] at rows_are) rest)
