use Rattle.std.proofs.Common.{◌+◌, ◌-◌, length, drop, take, ap, subst, arith}
use Rattle.js_doc.specs.BytesOut.{Puts}
use Rattle.js_doc.specs.Compact.{compact}
use Rattle.js_tree.specs.FlatState.{row_of}
use Rattle.js_tree.specs.Form.{node_value, node_values}
use Rattle.js_tree.proofs.Pieces.{then_puts, stops_in, stops_at_comma, stops_at_item, item_goes, array_ends}
use Rattle.js_tree.proofs.FlatRows.{first_tree, root_row, all_gone, some_tree, shorter}
use Rattle.js_tree.proofs.Nested.{not_none, is_none}
use Rattle.js_tree.proofs.NextRows.{next_done, slice_of_first}
use Rattle.js_tree.proofs.ChildTexts.{WroteTrees, rest_below, row_leaf_text, rows_parent_text}
use Rattle.js_tree.proofs.formats.flat_text.+put_root.Goals as goal

pub put_root-returns-then-is_empty : goal.put_root-returns-then-is_empty
put_root-returns-then-is_empty g t c =
    λ t' e.
    let o = g.O.Out.progress in
    let rows = c.args.rows.now in
    let u = c.index-rows-0.result.unit in
    let below = rest_below row_of rows t' e in
    let r = c.put_leaf.result in
    subst (λ u. Puts (o c.args.out.now) (o c.put_leaf.new.out) (compact (node_value u (node_values t'.below))) r)
    (root_row row_of rows t' c.index-rows-0.result e c.index-rows-0.is)
    (subst (λ l. Puts (o c.args.out.now) (o c.put_leaf.new.out) l r) (row_leaf_text row_of u _ t'.below
    (is_none (length (take (length rows - 1) (drop 1 rows))) c.if-is_empty.ensures) below)
    c.put_leaf.ensures)

pub put_root-returns-in_err-put_front : goal.put_root-returns-in_err-put_front
put_root-returns-in_err-put_front g t c =
    λ t' e.
    let o = g.O.Out.progress in
    let some = not_none (length (take (length c.args.rows.now - 1) (drop 1 c.args.rows.now))) c.if-is_empty.ensures in
    subst (λ l. Puts (o c.args.out.now) (o c.put_front.new.out) l c.from_residual.result)
    (rows_parent_text row_of c.args.rows.now t' _ e c.index-rows-0.is some)
    (stops_in _ _ _ _ _ c.from_residual.ensures.0 c.in_err-put_front.ensures)

pub put_root-returns-in_err-put_roots : goal.put_root-returns-in_err-put_roots
put_root-returns-in_err-put_roots g t c =
    λ t' e.
    let o = g.O.Out.progress in
    let below = rest_below row_of c.args.rows.now t' e in
    let some = not_none (length (take (length c.args.rows.now - 1) (drop 1 c.args.rows.now))) c.if-is_empty.ensures in
    subst (λ l. Puts (o c.args.out.now) (o c.put_roots.new.out) l c.from_residual-in_err-put_roots.result)
    (rows_parent_text row_of c.args.rows.now t' _ e c.index-rows-0.is some)
    (then_puts _ _ _ _ _ _ c.in_ok-put_front.ensures
    (stops_in _ _ _ _ _ c.from_residual-in_err-put_roots.ensures.0 (c.in_err-put_roots.ensures t'.below below)))

pub put_root-returns : goal.put_root-returns
put_root-returns g t c =
    λ t' e.
    let o = g.O.Out.progress in
    let below = rest_below row_of c.args.rows.now t' e in
    let some = not_none (length (take (length c.args.rows.now - 1) (drop 1 c.args.rows.now))) c.if-is_empty.ensures in
    subst (λ l. Puts (o c.args.out.now) (o c.put_back.new.out) l c.put_back.result)
    (rows_parent_text row_of c.args.rows.now t' _ e c.index-rows-0.is some)
    (then_puts _ _ _ _ _ _ c.in_ok-put_front.ensures
    (then_puts _ _ _ _ _ _ (c.in_ok-put_roots.ensures t'.below below) c.put_back.ensures))

pub put_roots-returns-in_err-put_comma : goal.put_roots-returns-in_err-put_comma
put_roots-returns-in_err-put_comma g t c =
    λ f e.
    let w = c.loop-next.invariant.1 f e in
    let s = some_tree row_of _ _ _ w.1 c.loop-next-test.true in
    stops_at_comma _ _ _ _ _ (node_values s.after) (node_value s.unit (node_values s.below)) _ _ w.2
    (ap node_values s.is) c.from_residual.ensures.0 c.in_err-put_comma.ensures.comma

pub put_roots-overflow_add-end : goal.put_roots-overflow_add-end
put_roots-overflow_add-end g t c =
    let w = c.loop-next.invariant.1 c.requires.0 c.requires.1 in
    omega (arith, (first_tree row_of _ _ _ _ w.1 c.loop-next-test.true c.index-rows-next.is).fits)

pub put_roots-slice_bounds-put_root-end : goal.put_roots-slice_bounds-put_root-end
put_roots-slice_bounds-put_root-end g t c =
    let w = c.loop-next.invariant.1 c.requires.0 c.requires.1 in
    (first_tree row_of _ _ _ _ w.1 c.loop-next-test.true c.index-rows-next.is).fits

pub put_roots-put_root-requires : goal.put_roots-put_root-requires
put_roots-put_root-requires g t c κs within =
    let w = c.loop-next.invariant.1 c.requires.0 c.requires.1 in
    let t = first_tree row_of _ _ _ _ w.1 c.loop-next-test.true c.index-rows-next.is in
    let all_is = slice_of_first row_of _ _ _ _ t in
    let l = c.loop-next in
    let few = shorter (l.next + c.index-rows-next.result.size - l.next) l.next c.args.rows.now in
    (omega (arith, few, c.decreases), (within, (_, all_is)))

pub put_roots-returns-in_err-put_root : goal.put_roots-returns-in_err-put_root
put_roots-returns-in_err-put_root g t c =
    λ f e.
    let w = c.loop-next.invariant.1 f e in
    let t = first_tree row_of _ _ _ _ w.1 c.loop-next-test.true c.index-rows-next.is in
    let all_is = slice_of_first row_of _ _ _ _ t in
    stops_at_item _ _ _ _ _ _ (node_values t.after) _ _ _ w.2 (ap node_values t.is) c.in_ok-put_comma.ensures.comma
    c.from_residual-in_err-put_root.ensures.0 (c.in_err-put_root.ensures _ all_is)

pub put_roots-loop-next-smaller : goal.put_roots-loop-next-smaller
put_roots-loop-next-smaller g t c =
    let w = c.loop-next.invariant.1 c.requires.0 c.requires.1 in
    let t = first_tree row_of _ _ _ _ w.1 c.loop-next-test.true c.index-rows-next.is in
    omega (arith, t.size, t.fits)

pub put_roots-loop-next-preserved : goal.put_roots-loop-next-preserved
put_roots-loop-next-preserved g t c =
    let o = g.O.Out.progress in
    let l = c.loop-next in
    next_done row_of c.args.rows.now l.next c.index-rows-next.result (WroteTrees (o c.args.out.now) (o l.out) l.later)
    (WroteTrees (o c.args.out.now) (o c.put_root.new.out) c.put_comma.new.later) c.requires l.invariant
    c.loop-next-test.true c.index-rows-next.is
    (λ f left t w. item_goes _ _ _ _ _ _ _ (node_values t.after) _ _ w (ap node_values t.is)
    c.in_ok-put_comma.ensures.comma c.in_ok-put_comma.ensures.later
    (c.in_ok-put_root.ensures _ (slice_of_first row_of _ _ _ _ t)))

pub put_roots-returns : goal.put_roots-returns
put_roots-returns g t c =
    λ f e.
    let l = c.loop-next in
    let w = l.invariant.1 f e in
    let none = all_gone row_of c.args.rows.now l.next _ w.1 (omega (arith, c.loop-next-test.false)) in
    array_ends _ _ _ _ _ _ _ w.2 (ap node_values none) c.put.ensures
