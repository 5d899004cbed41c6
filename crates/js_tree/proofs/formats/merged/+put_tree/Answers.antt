use Rattle.std.proofs.Common.{◌≡◌, ◌<◌, length, get_or, ap, subst, arith}
use Rattle.js_doc.specs.BytesOut.{Puts}
use Rattle.js_doc.specs.Compact.{compact}
use Rattle.js_tree.specs.Forest.{forest_of, node_count}
use Rattle.js_tree.specs.Form.{node_value, node_values, verbose}
use Rattle.js_tree.proofs.Pieces.{then_puts, stops_in, stops_at_comma, stops_at_item, item_goes, array_ends}
use Rattle.js_tree.proofs.Forests.{fewer_nodes}
use Rattle.std.proofs.lemmas.List.{drop_all}
use Rattle.js_tree.proofs.Nested.{is_none, not_none}
use Rattle.js_tree.proofs.ChildTexts.{leaf_text, tree_next, tree_parent_text}
use Rattle.js_tree.proofs.formats.merged.+put_tree.Goals as goal

pub put_tree-returns-then-is_empty : goal.put_tree-returns-then-is_empty
put_tree-returns-then-is_empty g t c =
    let o = g.O.Out.progress in
    let ts = c.as_slice-children.result.now in
    let r = c.put_leaf.result in
    subst (λ t. Puts (o c.args.out.now) (o c.put_leaf.new.out) (compact (verbose t)) r) c.tree.view_is
    (subst (λ us. Puts (o c.args.out.now) (o c.put_leaf.new.out)
    (compact (node_value c.tree.inside.unit (node_values (forest_of us)))) r) c.as_slice-children.ensures
    (subst (λ l. Puts (o c.args.out.now) (o c.put_leaf.new.out) l r)
    (leaf_text c.tree.inside.unit ts (is_none (length ts) c.if-is_empty.ensures)) c.put_leaf.ensures))

pub put_tree-returns-in_err-put_front : goal.put_tree-returns-in_err-put_front
put_tree-returns-in_err-put_front g t c =
    let o = g.O.Out.progress in
    let some = not_none (length c.as_slice-children.result.now) c.if-is_empty.ensures in
    let is = tree_parent_text c.tree.inside.unit _ _ _ some c.as_slice-children.ensures c.tree.view_is in
    subst (λ l. Puts (o c.args.out.now) (o c.put_front.new.out) l c.from_residual.result) is
    (stops_in _ _ _ _ _ c.from_residual.ensures.0 c.in_err-put_front.ensures)

pub put_tree-returns-in_err-put_trees : goal.put_tree-returns-in_err-put_trees
put_tree-returns-in_err-put_trees g t c =
    let o = g.O.Out.progress in
    let some = not_none (length c.as_slice-children.result.now) c.if-is_empty.ensures in
    let is = tree_parent_text c.tree.inside.unit _ _ _ some c.as_slice-children.ensures c.tree.view_is in
    subst (λ l. Puts (o c.args.out.now) (o c.put_trees.new.out) l c.from_residual-in_err-put_trees.result) is
    (then_puts _ _ _ _ _ _ c.in_ok-put_front.ensures
    (stops_in _ _ _ _ _ c.from_residual-in_err-put_trees.ensures.0 c.in_err-put_trees.ensures))

pub put_tree-returns : goal.put_tree-returns
put_tree-returns g t c =
    let o = g.O.Out.progress in
    let some = not_none (length c.as_slice-children.result.now) c.if-is_empty.ensures in
    let is = tree_parent_text c.tree.inside.unit _ _ _ some c.as_slice-children.ensures c.tree.view_is in
    subst (λ l. Puts (o c.args.out.now) (o c.put_back.new.out) l c.put_back.result) is
    (then_puts _ _ _ _ _ _ c.in_ok-put_front.ensures
    (then_puts _ _ _ _ _ _ c.in_ok-put_trees.ensures c.put_back.ensures))

pub put_trees-returns-in_err-put_comma : goal.put_trees-returns-in_err-put_comma
put_trees-returns-in_err-put_comma g t c =
    let l = c.loop-tree in
    let next = tree_next c.args.trees.now l.tree-index _ c.loop-tree-test.true c.tree-item.is in
    stops_at_comma _ _ _ _ _ _ _ _ _ l.invariant next c.from_residual.ensures.0 c.in_err-put_comma.ensures.comma

pub put_trees-put_tree-requires : goal.put_trees-put_tree-requires
put_trees-put_tree-requires g t c κs within =
    let l = c.loop-tree in
    let ts = c.args.trees.now in
    let h : l.tree-index < length ts = c.loop-tree-test.true in
    let e : node_count c.tree-item.result.below
    ≡ node_count (get_or ts l.tree-index c.tree-item.result).below = ap (λ t. node_count t.below) c.tree-item.is in
    (omega (arith, e, fewer_nodes ts l.tree-index c.tree-item.result h, c.decreases), within)

pub put_trees-returns-in_err-put_tree : goal.put_trees-returns-in_err-put_tree
put_trees-returns-in_err-put_tree g t c =
    let l = c.loop-tree in
    let next = tree_next c.args.trees.now l.tree-index _ c.loop-tree-test.true c.tree-item.is in
    stops_at_item _ _ _ _ _ _ _ _ _ _ l.invariant next c.in_ok-put_comma.ensures.comma
    c.from_residual-in_err-put_tree.ensures.0 c.in_err-put_tree.ensures

pub put_trees-loop-tree-preserved : goal.put_trees-loop-tree-preserved
put_trees-loop-tree-preserved g t c =
    let l = c.loop-tree in
    let next = tree_next c.args.trees.now l.tree-index _ c.loop-tree-test.true c.tree-item.is in
    item_goes _ _ _ _ _ _ _ _ _ _ l.invariant next c.in_ok-put_comma.ensures.comma c.in_ok-put_comma.ensures.later
    c.in_ok-put_tree.ensures

pub put_trees-returns : goal.put_trees-returns
put_trees-returns g t c =
    let l = c.loop-tree in
    let none = drop_all l.tree-index c.args.trees.now c.loop-tree-test.false in
    array_ends _ _ _ _ _ _ _ l.invariant (ap (λ ts. node_values (forest_of ts)) none) c.put.ensures
