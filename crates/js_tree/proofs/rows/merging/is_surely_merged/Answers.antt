use Rattle.std.proofs.Common.{map, ap, ◌∙◌}
use Rattle.js_tree.proofs.ChildTexts.{rest_of}
use Rattle.js_tree.proofs.FlatRows.{rows_below}
use Rattle.js_tree.specs.Rows.Relative.{escaped_tree, relative_tree}
use Rattle.js_tree.specs.Rows.RelativeState.{relative_row}
use Rattle.js_tree.proofs.RowsOfTrees.DifferingTrees.{merged_as_it_is}
use Rattle.js_tree.proofs.WrittenRows.ListedRows.{whole_rows}
use Rattle.js_tree.proofs.rows.merging.is_surely_merged.Goals as goal

pub siblings_differ-requires : goal.siblings_differ-requires
siblings_differ-requires c =
    let t = c.requires.0 in
    let found = c.as_slice-rows.result.now in
    let shown = escaped_tree (relative_tree t) in
    let is = whole_rows c.args.rows.now t found c.as_slice-rows.ensures.value c.requires.1 in
    (shown.below, ap (map relative_row) (rest_of found) ∙ rows_below relative_row found shown is)

pub returns : goal.returns
returns c =
    λ t h n y.
    let found = c.as_slice-rows.result.now in
    let shown = escaped_tree (relative_tree t) in
    let is = whole_rows c.args.rows.now t found c.as_slice-rows.ensures.value h in
    let under = ap (map relative_row) (rest_of found) ∙ rows_below relative_row found shown is in
    merged_as_it_is t n (c.siblings_differ.ensures shown.below under y)
