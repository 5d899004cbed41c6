use Rattle.std.proofs.lemmas.Result.{IfOk-weaker}
use Rattle.std.proofs.Common.{◌-◌, ◌++◌, ◌∷◌, append-nil, map, sym, ap, ◌∙◌, arith}
use Rattle.js_tree.proofs.ChildTexts.{rest_of}
use Rattle.js_tree.proofs.FlatRows.{none_below, root_row, rows_below, shorter}
use Rattle.js_tree.specs.Rows.Marks.{left_trees, mark_of, marked}
use Rattle.js_tree.specs.Rows.RelativeState.{relative_row}
use Rattle.js_tree.proofs.RowsOfTrees.MarkedRows.{leaf_marked, mark_ends, mark_fits, mark_goes_on, mark_set}
use Rattle.js_tree.proofs.RowsOfTrees.MarkedRows.{mark_starts, one_tree}
use Rattle.js_tree.proofs.RowsOfTrees.NextTrees.{tree_up_to}
use Rattle.js_tree.proofs.rows.marks.+mark_trees.Goals as goal

pub mark_trees-loop-next-init : goal.mark_trees-loop-next-init
mark_trees-loop-next-init t c =
    (omega arith, λ f e. mark_starts c.args.verdict c.args.rows.now c.args.marks.now.items f e)

pub mark_trees-tree_end-next-requires-clause-trees : goal.mark_trees-tree_end-next-requires-clause-trees
mark_trees-tree_end-next-requires-clause-trees t c =
    let w = c.loop-next.invariant.1 c.requires.0 c.requires.1 in
    (w.left, w.left_is)

pub mark_trees-loop-next-preserved : goal.mark_trees-loop-next-preserved
mark_trees-loop-next-preserved t' c = (
  c.tree_end-next.ensures.fits,
  λ f e.
      let w = c.loop-next.invariant.1 f e in
      let t = tree_up_to _ _ _ _ w.left_is c.loop-next-test.true c.tree_end-next.ensures.size in
      let reported = c.in_ok-trees.ensures _ t.all in
      mark_goes_on _ _ _ _ _ _ _ _ _ _ w t reported.0 reported.1,
)

pub mark_trees-returns : goal.mark_trees-returns
mark_trees-returns t c =
    λ f e. mark_ends _ _ _ _ _ _ _ (c.loop-next.invariant.1 f e) (omega (arith, c.loop-next-test.false))

pub mark_trees-mark_tree-requires : goal.mark_trees-mark_tree-requires
mark_trees-mark_tree-requires t' c =
    let l = c.loop-next in
    let w = l.invariant.1 c.requires.0 c.requires.1 in
    let t = tree_up_to _ _ _ _ w.left_is c.loop-next-test.true c.tree_end-next.ensures.size in
    (omega (arith, shorter (c.tree_end-next.result - l.next) l.next c.args.rows.now, c.decreases), (_, t.all))

pub mark_trees-overflow_add-trees : goal.mark_trees-overflow_add-trees
mark_trees-overflow_add-trees t' c =
    let w = c.loop-next.invariant.1 c.requires.0 c.requires.1 in
    let t = tree_up_to _ _ _ _ w.left_is c.loop-next-test.true c.tree_end-next.ensures.size in
    let reported = c.in_ok-trees.ensures _ t.all in
    omega (arith, mark_fits _ _ _ _ _ _ _ _ _ w t c.requires.1 reported.1)

pub mark_tree-returns-then-count-eq1 : goal.mark_tree-returns-then-count-eq1
mark_tree-returns-then-count-eq1 t c =
    let rows = c.args.rows.now in
    let old = c.args.marks.now.items in
    let new = c.mark_leaf.new.marks.items in
    IfOk-weaker c.mark_leaf.result _ _
    (λ n reported r e.
    let root = root_row relative_row rows r c.index-rows-0.result e c.index-rows-0.is in
    let none = none_below relative_row rows r e (omega (arith, c.if-count-eq1.true)) in
    leaf_marked c.args.verdict r c.index-rows-0.result old new n root none reported)
    c.mark_leaf.ensures

pub mark_tree-returns : goal.mark_tree-returns
mark_tree-returns t' c =
    λ r e.
    let v = c.args.verdict in
    let rows = c.args.rows.now in
    let x = c.index-rows-0-2.result in
    let root = root_row relative_row rows r x e c.index-rows-0-2.is in
    let is = ap (map relative_row) (rest_of rows) ∙ rows_below relative_row rows r e in
    let reported = c.in_ok-trees.ensures r.below is in
    let old = c.args.marks.now.items in
    let more = marked v r.below in
    let mark_is = c.mark_of-mark.ensures
    ∙ (ap (λ u. mark_of v u c.in_ok-trees.trees) root ∙ ap (mark_of v r.root) reported.1) in
    let new_is = reported.0 ∙ ap (λ ms. ms ++ more) c.in_ok-push.ensures.items in (
      mark_set old _ c.mark_of-mark.result more c.mark_trees.new.marks.items c.len-number.result
          (c.len-number.ensures ∙ c.args.marks.now.ok.0) new_is
          ∙ ap (λ m. old ++ m ∷ more) mark_is
          ∙ ap (λ ms. old ++ mark_of v r.root (left_trees v r.below) ∷ ms) (sym (append-nil more)),
      one_tree v r.root r.below c.mark_of-mark.result c.trees_of.result mark_is c.trees_of.ensures,
    )
