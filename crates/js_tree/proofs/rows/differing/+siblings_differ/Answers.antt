use Rattle.std.proofs.Common.{◌≡◌, true, refl, arith}
use Rattle.js_tree.specs.code.Differing.{siblings_differ}
use Rattle.js_tree.proofs.RowsOfTrees.SiblingsDiffer.{below_step, fewer_inside, one_differs, roots-siblings}
use Rattle.js_tree.proofs.RowsOfTrees.SiblingsDiffer.{rows_inside, see_end}
use Rattle.js_tree.proofs.RowsOfTrees.SiblingsDiffer.{see_next, tree_there}
use Rattle.js_tree.proofs.rows.differing.+siblings_differ.Goals.{else-row-gt2-via-else-row-gt2}
use Rattle.js_tree.proofs.rows.differing.+siblings_differ.Goals.{else-row-gt2-via-then-row-gt2+else-not-siblings_differ}
use Rattle.js_tree.proofs.rows.differing.+siblings_differ.Goals as goal

pub siblings_differ-requires : goal.siblings_differ-requires
siblings_differ-requires t' c =
    let w = c.loop-next.invariant.1 c.requires.0 c.requires.1 in
    let t = tree_there _ _ _ w c.loop-next-test.true c.index-rows-first.is in
    let size = c.tree_end-next.ensures.size c.index-rows-first.result c.index-rows-first.is in (
      omega (arith, fewer_inside _ _ c.tree_end-next.result c.loop-next-test.true, c.decreases),
      (t.below, rows_inside _ _ _ _ _ t size),
    )

pub loop-next-preserved : goal.loop-next-preserved
loop-next-preserved t' c =
    let x = c.index-rows-first.result in
    let size = c.tree_end-next.ensures.size x c.index-rows-first.is in (
      c.tree_end-next.ensures.rest,
      λ f e.
          let w = c.loop-next.invariant.1 f e in
          let t = tree_there _ _ _ w c.loop-next-test.true c.index-rows-first.is in
          let below : siblings_differ t.below ≡ true =
          elim c.else-row-gt2.branch [
            | else-row-gt2-via-then-row-gt2+else-not-siblings_differ b ↦
                b.siblings_differ.ensures t.below (rows_inside _ _ _ _ _ t size) b.if-not-siblings_differ.false
            | else-row-gt2-via-else-row-gt2 b ↦ one_differs t.below x.size t.size (omega (arith, b.if-row-gt2.false))
          ] in
          see_next _ _ _ _ w t size (below_step t.unit t.below t.after below),
    )

pub returns : goal.returns
returns t' c =
    λ f e i.
    let l = c.loop-next in
    let differ = c.roots_differ.ensures f e c.if-not-roots_differ.false in
    let below = see_end _ _ (l.invariant.1 f e) (omega (arith, c.loop-next-test.false)) refl in
    roots-siblings f differ below
