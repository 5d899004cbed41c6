use Rattle.std.proofs.Common.{◌≡◌, ◌-◌, ◌++◌, length, ap, subst, arith}
use Rattle.js_tree.specs.Form.{node_values}
use Rattle.js_tree.proofs.FlatRows.{shorter}
use Rattle.js_tree.proofs.Nested.{is_none, not_none}
use Rattle.js_tree.specs.Rows.Relative.{placed}
use Rattle.js_tree.specs.code.Gathering.{GathersOrStops, Gathers}
use Rattle.js_tree.specs.code.Listing.{values_text}
use Rattle.js_tree.specs.code.RelativeText.{unit_there}
use Rattle.js_tree.proofs.RowsOfTrees.EscapedRows.{are_trees, entered, next_tree, no_trees, still_at}
use Rattle.js_tree.proofs.WrittenRows.Gathering.{all_passed, none_passed, one_passed, pass_stops, same_to_pass}
use Rattle.js_tree.proofs.WrittenRows.Gathering.{stopped_last}
use Rattle.js_tree.proofs.WrittenRows.RelativeTexts.{back_again, gathers_whole, root_there, room_for_part, stays_there}
use Rattle.js_tree.proofs.WrittenRows.RelativeTexts.{stops_in_children, stops_in_front, tree_next, without_trees}
use Rattle.js_tree.proofs.formats.writer.Writer.+put_tree.Goals as goal

pub put_tree-returns-in_err-put_node-clause-text : goal.put_tree-returns-in_err-put_node-clause-text
put_tree-returns-in_err-put_node-clause-text g t c =
    λ t' k i at e.
    let o = g.O.Out.progress in
    let n = entered c.args.rows.now t' c.index-rows-0.result c.args.self.now.locations c.go_to_node.new.self k i e
    c.index-rows-0.is at c.go_to_node.ensures in
    let reported = c.in_err-put_node.ensures.text t'.below (k ++ t'.root.keyword) t'.root.absolute
    (i ++ t'.root.instance) n.down n.absolute n.below in
    subst (λ l. GathersOrStops (o c.args.out.now) (o c.put_node.new.out) c.args.self.now.gathered.text.items
    c.put_node.new.self.gathered.text.items l c.from_residual.result)
    (root_there c.args.later k i c.index-rows-0.result t' n.root)
    (stopped_last _ _ c.args.self.now.gathered.text.items c.put_node.new.self.gathered.text.items _ _
    c.from_residual.ensures.0 reported)

pub put_tree-returns-clause-text : goal.put_tree-returns-clause-text
put_tree-returns-clause-text g t c =
    λ t' k i at e.
    let o = g.O.Out.progress in
    let n = entered c.args.rows.now t' c.index-rows-0.result c.args.self.now.locations c.go_to_node.new.self k i e
    c.index-rows-0.is at c.go_to_node.ensures in
    subst (Gathers (o c.args.out.now) (o c.put_node.new.out) c.args.self.now.gathered.text.items
    c.put_node.new.self.gathered.text.items) (root_there c.args.later k i c.index-rows-0.result t' n.root)
    (c.in_ok-put_node.ensures.text t'.below (k ++ t'.root.keyword) t'.root.absolute (i ++ t'.root.instance)
    n.down n.absolute n.below)

pub put_node-returns-then-is_empty-clause-text : goal.put_node-returns-then-is_empty-clause-text
put_node-returns-then-is_empty-clause-text g t c =
    λ f k a i at abs e.
    let o = g.O.Out.progress in
    let p = c.args.self.now.gathered.text.items in
    let q = c.add_start.new.self.gathered.text.items in
    let below = c.args.below.now in
    let none : length below ≡ 0 = is_none (length below) c.if-is_empty.ensures in
    subst (λ l. GathersOrStops (o c.args.out.now) (o c.add_start.new.out) p q l c.add_start.result) (without_trees
    c.args.later (unit_there c.args.row.now k a i) k i below f none e) (c.add_start.ensures.text k a i at abs)

pub put_node-returns-in_err-add_start-clause-text : goal.put_node-returns-in_err-add_start-clause-text
put_node-returns-in_err-add_start-clause-text g t c =
    λ f k a i at abs e.
    let o = g.O.Out.progress in let some = not_none (length c.args.below.now) c.if-is_empty.ensures in
    stops_in_front c.args.later c.args.row.now k a i c.args.below.now f e some (o c.args.out.now)
    (o c.add_start-2.new.out) c.args.self.now.gathered.text.items c.add_start-2.new.self.gathered.text.items
    c.from_residual.result c.from_residual.ensures.0 (c.in_err-add_start.ensures.text k a i at abs)

pub put_node-returns-in_err-put_trees-clause-text : goal.put_node-returns-in_err-put_trees-clause-text
put_node-returns-in_err-put_trees-clause-text g t c =
    λ f k a i at abs e.
    let o = g.O.Out.progress in let some = not_none (length c.args.below.now) c.if-is_empty.ensures in
    stops_in_children c.args.later c.args.row.now k a i c.args.below.now f e some (o c.args.out.now)
    (o c.add_start-2.new.out) (o c.put_trees.new.out) c.args.self.now.gathered.text.items
    c.add_start-2.new.self.gathered.text.items c.put_trees.new.self.gathered.text.items
    c.from_residual-in_err-put_trees.result (c.in_ok-add_start.ensures.text k a i at abs)
    c.from_residual-in_err-put_trees.ensures.0 (c.in_err-put_trees.ensures.text f k i
    (still_at c.args.self.now.locations c.add_start-2.new.self.locations k i at c.in_ok-add_start.ensures.back) e)

pub put_node-returns-clause-text : goal.put_node-returns-clause-text
put_node-returns-clause-text g t c =
    λ f k a i at abs e.
    let o = g.O.Out.progress in
    let some = not_none (length c.args.below.now) c.if-is_empty.ensures in
    let there = still_at c.args.self.now.locations c.add_start-2.new.self.locations k i at
    c.in_ok-add_start.ensures.back in
    let last = still_at c.add_start-2.new.self.locations c.put_trees.new.self.locations k i there
    c.in_ok-put_trees.ensures.back in
    gathers_whole c.args.later c.args.row.now k a i c.args.below.now f e some (o c.args.out.now)
    (o c.add_start-2.new.out) (o c.put_trees.new.out) (o c.add_back.new.out) c.args.self.now.gathered.text.items
    c.add_start-2.new.self.gathered.text.items c.put_trees.new.self.gathered.text.items
    c.add_back.new.gathered.text.items c.add_back.result
    (c.in_ok-add_start.ensures.text k a i at abs) (c.in_ok-put_trees.ensures.text f k i there e)
    (c.add_back.ensures k i last)

pub put_trees-loop-next-init : goal.put_trees-loop-next-init
put_trees-loop-next-init g t c = (
  omega arith,
  stays_there c.args.self.now.locations,
  λ f e.
      (f, e, λ k i at. none_passed (g.O.Out.progress c.args.out.now) c.args.self.now.gathered.text.items _),
)

pub put_trees-tree_end-next-requires-clause-trees : goal.put_trees-tree_end-next-requires-clause-trees
put_trees-tree_end-next-requires-clause-trees g t c =
    let w = c.loop-next.invariant.2 c.requires.0 c.requires.1 in
    are_trees _ w.0 w.1

pub put_trees-put_tree-requires : goal.put_trees-put_tree-requires
put_trees-put_tree-requires g t c κs within =
    let l = c.loop-next in
    let w = l.invariant.2 c.requires.0 c.requires.1 in
    let t = next_tree _ _ _ _ w.1 c.loop-next-test.true c.tree_end-next.ensures.size in
    let room = room_for_part _ l.self.locations c.args.rows.now l.next _ c.requires.2 l.invariant.1 in (
      omega (arith, shorter (c.tree_end-next.result - l.next) l.next c.args.rows.now, c.decreases),
      (within, (_, t.all, room)),
    )

pub put_trees-returns-in_err-put_tree-clause-text : goal.put_trees-returns-in_err-put_tree-clause-text
put_trees-returns-in_err-put_tree-clause-text g t c =
    λ f k i at e.
    let l = c.loop-next in
    let w = l.invariant.2 f e in
    let t = next_tree _ _ _ _ w.1 c.loop-next-test.true c.tree_end-next.ensures.size in
    let there = still_at _ _ k i at l.invariant.1 in
    let next = tree_next _ _ _ _ l.later k i _ t.unit t.below t.after _ (w.2 k i at) t.is in
    pass_stops _ _ _ _ _ _ _ _ _ _ c.from_residual.ensures.0 next
    (c.in_err-put_tree.ensures.text _ k i there t.all)

pub put_trees-loop-next-preserved : goal.put_trees-loop-next-preserved
put_trees-loop-next-preserved g t c =
    let l = c.loop-next in (
      c.tree_end-next.ensures.fits,
      back_again c.args.self.now.locations l.self.locations c.put_tree.new.self.locations l.invariant.1
          c.in_ok-put_tree.ensures.back,
      λ f e.
          let w = l.invariant.2 f e in
          let t = next_tree _ _ _ _ w.1 c.loop-next-test.true c.tree_end-next.ensures.size in (
            t.after,
            t.more,
            λ k i at.
                let there = still_at _ _ k i at l.invariant.1 in
                let next = tree_next _ _ _ _ l.later k i _ t.unit t.below t.after _ (w.2 k i at) t.is in
                one_passed _ _ _ _ _ _ _ _ _ next (c.in_ok-put_tree.ensures.text _ k i there t.all),
          ),
    )

pub put_trees-returns-clause-text : goal.put_trees-returns-clause-text
put_trees-returns-clause-text g t c =
    λ f k i at e.
    let l = c.loop-next in
    let w = l.invariant.2 f e in
    let none = no_trees c.args.rows.now l.next _ w.1 (omega (arith, c.loop-next-test.false)) in
    all_passed _ _ _ _ _
    (same_to_pass _ _ _ _ _ _ _ (w.2 k i at) (ap (λ f. values_text l.later (node_values (placed k i f))) none))
