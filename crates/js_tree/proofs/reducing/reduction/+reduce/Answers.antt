use Rattle.std.proofs.Common.{◌∙◌, sym, ap, length, arith, ◌<◌}
use Rattle.js_tree.specs.Forest.{empty, tree as node, forest_of}
use Rattle.js_tree.specs.code.Reductions.{left_of_each}
use Rattle.js_tree.proofs.Compaction.{fewer_in_next, next_left, next_gone}
use Rattle.js_tree.proofs.ReducedTrees.{left_of_each-append, one_drops, one_lifts, one_stands}
use Rattle.js_tree.proofs.reducing.reduction.+reduce.Goals as goal
use Rattle.js_tree.proofs.reducing.reduction.+reduce.Goals.{reduce_all-then-reduce_one, reduce_all-else-reduce_one}

pub reduce_all-reduce_one-requires : goal.reduce_all-reduce_one-requires
reduce_all-reduce_one-requires t c =
    let h : c.loop-i.i < length c.args.trees.now = omega arith in
    (omega (arith, fewer_in_next _ _ _ c.index-trees-i.result c.loop-i.invariant.rest h, c.decreases), tt)

pub reduce_all-loop-i-preserved : goal.reduce_all-loop-i-preserved
reduce_all-loop-i-preserved t c =
    let l = c.loop-i in
    let r = c.args.reduction in
    let m : l.i < length l.trees = omega arith in
    let h : l.i < length c.args.trees.now = omega arith in
    elim c.if-reduce_one.branch [
      | reduce_all-then-reduce_one w ↦
          rw (w.trees-is, w.swap.ensures.after, w.count-is)
          (next_left (left_of_each r) (left_of_each-append r) _ _ _ _ _ _ l.invariant m h w.if-reduce_one.ensures)
      | reduce_all-else-reduce_one w ↦
          rw (w.trees-is, w.count-is)
          (next_gone (left_of_each r) (left_of_each-append r) _ _ _ _ _ _ l.invariant m h w.if-reduce_one.ensures)
    ]

pub reduce_one-returns-then-drops : goal.reduce_one-returns-then-drops
reduce_one-returns-then-drops t c =
    ap (λ v. left_of_each c.args.reduction (node v.root v.below empty)) (sym c.tree.view_is)
    ∙ one_drops c.args.reduction c.tree.inside.unit (forest_of c.tree.inside.children)
    (sym c.drops.ensures ∙ c.if-drops.true)

pub reduce_one-returns-then-not-lifts : goal.reduce_one-returns-then-not-lifts
reduce_one-returns-then-not-lifts t c =
    ap (λ v. left_of_each c.args.reduction (node v.root v.below empty)) (sym c.tree.view_is)
    ∙ one_stands c.args.reduction c.tree.inside.unit (forest_of c.tree.inside.children)
    (forest_of c.reduce_children.new.children) (sym c.drops.ensures ∙ c.if-drops.false)
    (sym c.lifts.ensures ∙ c.if-not-lifts.true) c.reduce_children.ensures

pub reduce_one-returns : goal.reduce_one-returns
reduce_one-returns t c =
    ap (λ v. left_of_each c.args.reduction (node v.root v.below empty)) (sym c.tree.view_is)
    ∙ (one_lifts c.args.reduction c.tree.inside.unit (forest_of c.tree.inside.children) (forest_of
    c.reduce_children.new.children) (sym c.lifts.ensures ∙ c.if-not-lifts.false) c.reduce_children.ensures
    ∙ c.lift.ensures)
