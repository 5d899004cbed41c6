use Rattle.std.proofs.Common.{refl, arith}
use Rattle.js_tree.specs.Rows.RelativeState.{relative_row}
use Rattle.js_tree.proofs.RowsOfTrees.SiblingsDiffer.{more_at, pairs_step, see_end, see_next, tree_there}
use Rattle.js_tree.proofs.rows.differing.pairs_differ.Goals as goal

pub loop-next-preserved : goal.loop-next-preserved
loop-next-preserved c =
    let size = c.tree_end-next.ensures.size c.index-rows-first.result c.index-rows-first.is in (
      c.tree_end-next.ensures.rest,
      λ f e.
          let w = c.loop-next.invariant.1 f e in
          let t = tree_there _ _ _ w c.loop-next-test.true c.index-rows-first.is in
          let alone = c.stands_alone.ensures t.after (more_at _ _ _ _ _ t size) c.if-not-stands_alone.false in
          see_next _ _ _ _ w t size
          (pairs_step (relative_row c.index-rows-first.result).0 t.unit t.below t.after t.unit_is alone),
    )

pub returns : goal.returns
returns c =
    λ f e i.
    see_end _ _ (c.loop-next.invariant.1 f e) (omega (arith, c.loop-next-test.false)) refl
