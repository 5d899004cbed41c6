use Rattle.std.proofs.Common.{ℕ, List, [], refl, sym, ◌∙◌, arith}
use Rattle.js_tree.specs.code.PartOrder.{ascend_behind, roots_differ}
use Rattle.js_tree.proofs.RowsOfTrees.SiblingsDiffer.{ascend-differ, ascend_step, see_end, see_from, see_next}
use Rattle.js_tree.proofs.RowsOfTrees.SiblingsDiffer.{tree_there}
use Rattle.js_tree.proofs.rows.differing.roots_ascend.Goals as goal

pub loop-next-init : goal.loop-next-init
loop-next-init c = (
  c.requires,
  λ f e. see_from c.args.rows.now 0 (ascend_behind (0, [])) (roots_differ f) f e (ascend-differ (0, []) f),
)

pub loop-next-preserved : goal.loop-next-preserved
loop-next-preserved c =
    let l = c.loop-next in
    let x = c.index-rows-first.result in
    let above : ℕ × List ℕ = (l.rank, l.last.now) in
    let rank = c.part_rank-rank in
    let less = sym c.comes_before.ensures ∙ c.if-not-comes_before.false in (
      c.tree_end-next.ensures.rest,
      λ f e.
          let w = l.invariant.1 f e in
          let t = tree_there _ _ _ w c.loop-next-test.true c.index-rows-first.is in
          see_next _ _ _ _ w t (c.tree_end-next.ensures.size x c.index-rows-first.is)
          (ascend_step above x rank.result t.unit t.below t.after t.unit_is rank.ensures less),
    )

pub returns : goal.returns
returns c =
    λ f e i.
    see_end _ _ (c.loop-next.invariant.1 f e) (omega (arith, c.loop-next-test.false)) refl
