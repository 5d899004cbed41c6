use Rattle.std.proofs.Common.{◌++◌, ap, ◌∙◌}
use Rattle.js_tree.proofs.FlatRows.{root_row}
use Rattle.js_tree.specs.Rows.Marks.{marked, whole_of}
use Rattle.js_tree.specs.Rows.Relative.{escaped, escaped_tree, relative_tree}
use Rattle.js_tree.specs.Rows.RelativeState.{relative_row}
use Rattle.js_tree.proofs.RowsOfTrees.EscapedRows.{marked-escaped}
use Rattle.js_tree.proofs.WrittenRows.ListedRows.{whole_rows, whole_rows_of}
use Rattle.js_tree.proofs.rows.marks.RelativeMarks.new.Goals as goal

pub mark_trees-requires : goal.mark_trees-requires
mark_trees-requires c =
    let t = c.requires.0 in (
      escaped (whole_of t),
      whole_rows_of c.args.rows.now t c.as_slice-rows.result.now
          c.as_slice-rows.ensures.value c.requires.1,
    )

pub returns : goal.returns
returns c =
    λ t h.
    let is = c.as_slice-rows.ensures.value in
    let v_is = ap (λ u. u.valid) (root_row relative_row c.as_slice-rows.result.now (escaped_tree (relative_tree t))
    c.index-rows-0.result (whole_rows c.args.rows.now t c.as_slice-rows.result.now is h) c.index-rows-0.is) in
    let reported = c.in_ok-mark_trees.ensures (escaped (whole_of t))
    (whole_rows_of c.args.rows.now t c.as_slice-rows.result.now is h) in
    reported.0
    ∙ (ap (λ ms. ms ++ marked c.index-rows-0.result.valid (escaped (whole_of t))) c.in_ok-marks.ensures.items
    ∙ (ap (λ b. marked b (escaped (whole_of t))) v_is ∙ marked-escaped t.root.valid (whole_of t)))
