use Rattle.std.proofs.Common.{[], ap, ap₂, ◌∙◌}
use Rattle.js_tree.specs.Rows.Marks.{whole_of}
use Rattle.js_tree.specs.Rows.Relative.{relative_tree}
use Rattle.js_tree.specs.code.Listing.{AreMarkedRows}
use Rattle.js_tree.proofs.RowsOfTrees.AddedRows.{none_pending, whole_rows_kept}
use Rattle.js_tree.proofs.RowsOfTrees.KeptBetween.{kept_located}
use Rattle.js_tree.proofs.WrittenRows.ListedRows.{whole_rows_of}
use Rattle.js_tree.proofs.rows.keeping.keep_marked.Goals as goal

pub returns : goal.returns
returns c =
    λ t h.
    let r = relative_tree t in
    let is = c.deref_mut.ensures.value in
    let marked_rows : AreMarkedRows c.deref_mut.result.now c.as_slice-marks.result.now t.root.valid
    (whole_of t) = record {
      rows_are = whole_rows_of c.args.rows t c.deref_mut.result.now is h;
      marks_are = c.as_slice-marks.ensures.value ∙ c.requires.marks t h;
    } in
    let reported = c.in_ok-keep_node.ensures.rows t.root.valid r.root r.below [] []
    (none_pending _ c.end-start.result c.end-start.ensures) marked_rows in
    let rows_are = whole_rows_kept t c.in_ok-kept.kept.items c.keep_node.new.self.kept.items h.located
    c.in_ok-kept.ensures.items reported in
    record {
      rows_are = ap₂ (λ rs os. record { rows = rs; nodes = os; trims = c.args.rows.trims }) rows_are
          (ap (λ s. s.nodes) h.rows_are);
      located = kept_located t h.located;
    }
