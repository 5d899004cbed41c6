use Rattle.std.proofs.Common.{◌<◌, length, arith, ◌∙◌}
use Rattle.js_tree.specs.Forest.{tree, empty}
use Rattle.js_tree.proofs.Marks.{flat_form-flat_of}
use Rattle.js_tree.proofs.Nested.{alone, not_none, whole_sized}
use Rattle.js_tree.proofs.collecting.nesting.are_of_a_tree.Goals as goal

pub returns-then-root-rows : goal.returns-then-root-rows
returns-then-root-rows c = (
  λ h. absurd cc,
  λ w.
      let some : 0 < length c.args.rows.now = not_none (length c.args.rows.now) c.if-is_empty.ensures in
      let s = whole_sized c.args.rows.now c.index-rows-0.result w.0 w.1 some c.index-rows-0.is in
      let n = c.if-root-rows.true in
      absurd (omega (arith, s, n)),
)

pub returns : goal.returns
returns c =
    let rows = c.args.rows.now in
    let x = c.index-rows-0.result in
    let some : 0 < length rows = not_none (length rows) c.if-is_empty.ensures in (
      λ h. let f = c.are_of_trees.ensures.0 h in alone rows x f.0 f.1 some c.index-rows-0.is (omega arith),
      λ w. c.are_of_trees.ensures.1 (tree w.0.root w.0.below empty, w.1 ∙ flat_form-flat_of w.0),
    )
