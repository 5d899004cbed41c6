use Rattle.std.proofs.Common.{◌≡◌, IfOk, [], map, ap, subst, sym, ◌∙◌}
use Rattle.js_tree.specs.Rows.Locations.{HasRoom}
use Rattle.js_tree.specs.Rows.Relative.{relative_tree}
use Rattle.js_tree.specs.Rows.RelativeState.{relative_row}
use Rattle.js_tree.proofs.RowsOfTrees.EscapedRows.{at_root}
use Rattle.js_tree.proofs.RowsOfTrees.Placing.{placed_tree_again}
use Rattle.js_tree.proofs.rows.whole_tree.tree_of.Goals as goal

pub take_root-requires : goal.take_root-requires
take_root-requires c =
    let t = c.requires.0 in
    let h = c.requires.1 in
    let is = c.deref_mut.ensures.value in (
      relative_tree t,
      ap (map relative_row) is ∙ ap (λ s. s.rows) h.rows_are,
      subst (HasRoom c.in_ok-locations.locations) (sym is) c.in_ok-locations.ensures.room,
      record {
        keyword = [];
        instance = [];
        there = at_root c.in_ok-locations.locations c.args.rows c.in_ok-locations.ensures;
      },
    )

pub returns : goal.returns
returns c =
    λ t h.
    let r = relative_tree t in
    let rows_are = ap (map relative_row) c.deref_mut.ensures.value ∙ ap (λ s. s.rows) h.rows_are in
    subst (λ s. IfOk c.take_root.result (λ k. k ≡ s)) (placed_tree_again t h.located)
    (c.take_root.ensures r [] [] (at_root c.in_ok-locations.locations c.args.rows c.in_ok-locations.ensures) rows_are)
