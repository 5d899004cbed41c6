use Rattle.std.proofs.Common.{refl, arith}
use Rattle.js_tree.specs.Rows.RelativeState.{relative_row}
use Rattle.js_tree.proofs.RowsOfTrees.SiblingsDiffer.{alone_step, see_end, see_next, tree_there}
use Rattle.js_tree.proofs.rows.differing.stands_alone.Goals as goal

pub loop-next-preserved : goal.loop-next-preserved
loop-next-preserved c =
    let x = c.index-rows-first.result in
    let unit = (relative_row c.args.row.now).0 in
    let apart = c.stand_apart.ensures c.if-not-stand_apart.false in (
      c.tree_end-next.ensures.rest,
      λ f e.
          let w = c.loop-next.invariant.1 f e in
          let t = tree_there _ _ _ w c.loop-next-test.true c.index-rows-first.is in
          see_next _ _ _ _ w t (c.tree_end-next.ensures.size x c.index-rows-first.is)
          (alone_step unit (relative_row x).0 t.unit t.below t.after t.unit_is apart),
    )

pub returns : goal.returns
returns c =
    λ f e i.
    see_end _ _ (c.loop-next.invariant.1 f e) (omega (arith, c.loop-next-test.false)) refl
