use Rattle.std.proofs.Common.{◌++◌, drop, map, sym, ap, subst, ◌∙◌, refl, arith}
use Rattle.js_doc.specs.BytesOut.{Stops}
use Rattle.js_tree.proofs.ChildTexts.{rest_of}
use Rattle.js_tree.proofs.FlatRows.{rows_below}
use Rattle.js_tree.specs.Rows.Locations.{HasRoom}
use Rattle.js_tree.specs.Rows.Relative.{escaped_tree}
use Rattle.js_tree.specs.Rows.RelativeState.{relative_row}
use Rattle.js_tree.specs.code.Listing.{AllListed, AreListed, if_noted, listed, values_text}
use Rattle.js_tree.specs.code.RelativeText.{unit_there}
use Rattle.js_tree.proofs.RowsOfTrees.EscapedRows.{are_trees, entered, next_tree, still_at}
use Rattle.js_tree.proofs.WrittenRows.ListedRows.{both_listed, list_ends, list_goes_on, list_passes, list_starts}
use Rattle.js_tree.proofs.WrittenRows.ListedRows.{list_stops}
use Rattle.js_tree.proofs.WrittenRows.ListedRows.{listed_err, lists_go_on, may_agree, next_listed, next_passed}
use Rattle.js_tree.proofs.WrittenRows.ListedRows.{part_to_list}
use Rattle.js_tree.proofs.WrittenRows.ListedRows.{stops_first, stops_rest, tree_listed}
use Rattle.js_tree.proofs.WrittenRows.RelativeTexts.{back_again, room_still, stays_there}
use Rattle.js_tree.proofs.RowsOfTrees.RoomLeft.{fewer_below, room_below, some_row}
use Rattle.js_tree.proofs.formats.writer.Writer.+list_trees.Goals as goal

pub list_tree-returns-in_err-later-clause-listed : goal.list_tree-returns-in_err-later-clause-listed
list_tree-returns-in_err-later-clause-listed g t c =
    λ r k i at e.
    let o = g.O.Out.progress in
    let x = c.index-rows-0.result in
    let n = entered c.args.rows.now r x c.args.self.now.locations c.go_to_node.new.self k i e c.index-rows-0.is at
    c.go_to_node.ensures in
    let these = if_noted (unit_there x (k ++ r.root.keyword) r.root.absolute (i ++ r.root.instance)) in
    let below = listed r.root.valid (k ++ r.root.keyword) (i ++ r.root.instance) r.below in
    let res = c.from_residual.result in
    subst (λ us. AreListed (o c.args.out.now) (o c.put_noted.new.out) c.args.later us res)
    (tree_listed r.root.valid k i x r n.root)
    (listed_err (o c.args.out.now) (o c.put_noted.new.out) c.args.later (these ++ below) res c.from_residual.ensures.0
    (stops_first (o c.args.out.now) (o c.put_noted.new.out) c.args.later these below
    (c.in_err-later.ensures.listed (k ++ r.root.keyword) r.root.absolute (i ++ r.root.instance) n.down n.absolute)))

pub list_tree-list_trees-requires : goal.list_tree-list_trees-requires
list_tree-list_trees-requires g t c κs within =
    let rows = c.args.rows.now in
    let r = c.requires.0 in
    let e = c.requires.1 in
    let some = some_row rows (escaped_tree r) e in
    let is = ap (map relative_row) (rest_of rows) ∙ rows_below relative_row rows (escaped_tree r) e in
    let room = room_below c.args.self.now.locations c.go_to_node.new.self rows c.index-rows-0.result c.requires.2 some
    c.index-rows-0.is c.go_to_node.ensures in
    let still = room_still c.go_to_node.new.self c.put_noted.new.self.locations (drop 1 rows) room
    c.in_ok-later.ensures.back in (
      omega (arith, fewer_below rows some, c.decreases),
      (within, (r.below, is, subst (HasRoom c.put_noted.new.self.locations) (sym (rest_of rows)) still)),
    )

pub list_tree-returns-in_err-later-2-clause-listed : goal.list_tree-returns-in_err-later-2-clause-listed
list_tree-returns-in_err-later-2-clause-listed g t c =
    λ r k i at e.
    let n = entered c.args.rows.now r c.index-rows-0.result c.args.self.now.locations c.go_to_node.new.self k i e
    c.index-rows-0.is at c.go_to_node.ensures in
    subst (λ us. AreListed (g.O.Out.progress c.args.out.now) (g.O.Out.progress c.list_trees.new.out) c.args.later us
    c.from_residual-in_err-later-2.result) (tree_listed r.root.valid k i c.index-rows-0.result r n.root)
    (listed_err _ _ _ _ _ c.from_residual-in_err-later-2.ensures.0
    (stops_rest _ _ _ _ _ _ _ (c.in_ok-later.ensures.listed _ r.root.absolute _ n.down n.absolute)
    (subst (λ v. Stops (g.O.Out.progress c.put_noted.new.out) (g.O.Out.progress c.list_trees.new.out) (values_text
    c.in_ok-later.later (listed v (k ++ r.root.keyword) (i ++ r.root.instance) r.below))) (ap (λ u. u.valid) n.root)
    (c.in_err-later-2.ensures.listed r.below _ _ (still_at _ _ _ _ n.down c.in_ok-later.ensures.back) n.below))))

pub list_tree-returns-clause-listed : goal.list_tree-returns-clause-listed
list_tree-returns-clause-listed g t c =
    λ r k i at e.
    let n = entered c.args.rows.now r c.index-rows-0.result c.args.self.now.locations c.go_to_node.new.self k i e
    c.index-rows-0.is at c.go_to_node.ensures in
    subst (λ us. AllListed (g.O.Out.progress c.args.out.now) (g.O.Out.progress c.list_trees.new.out) c.args.later us
    c.in_ok-later-2.later) (tree_listed r.root.valid k i c.index-rows-0.result r n.root)
    (both_listed _ _ _ _ _ _ _ _ (c.in_ok-later.ensures.listed _ r.root.absolute _ n.down n.absolute)
    (subst (λ v. AllListed (g.O.Out.progress c.put_noted.new.out) (g.O.Out.progress c.list_trees.new.out)
    c.in_ok-later.later (listed v (k ++ r.root.keyword) (i ++ r.root.instance) r.below) c.in_ok-later-2.later)
    (ap (λ u. u.valid) n.root)
    (c.in_ok-later-2.ensures.listed r.below _ _ (still_at _ _ _ _ n.down c.in_ok-later.ensures.back) n.below)))

pub list_trees-loop-next-init : goal.list_trees-loop-next-init
list_trees-loop-next-init g t c = (
  omega arith,
  stays_there c.args.self.now.locations,
  λ f e. (f, e),
  λ f k i at e. list_starts (g.O.Out.progress c.args.out.now) c.args.later
      (listed c.args.verdict k i) c.args.rows.now f e,
)

pub list_trees-tree_end-next-requires-clause-trees : goal.list_trees-tree_end-next-requires-clause-trees
list_trees-tree_end-next-requires-clause-trees g t c =
    let w = c.loop-next.invariant.2 c.requires.0 c.requires.1 in
    are_trees _ w.0 w.1

pub list_trees-loop-next-preserved-then-not-may_list : goal.list_trees-loop-next-preserved-then-not-may_list
list_trees-loop-next-preserved-then-not-may_list g t c =
    let o = g.O.Out.progress in
    let l = c.loop-next in
    lists_go_on (o c.args.out.now) (o l.out) (o l.out) c.args.later l.later l.later c.args.verdict c.args.rows.now
    l.next c.args.self.now.locations l.self.locations l.self.locations _ _ l.invariant c.requires.1
    c.loop-next-test.true c.tree_end-next.ensures.size l.invariant.1
    (λ f k i at e.
    let w = l.invariant.3 f k i at e in
    let t = next_tree _ _ _ _ w.left_is c.loop-next-test.true c.tree_end-next.ensures.size in
    list_passes _ _ _ _ _ _ _ _ _ w t (next_passed c.args.verdict k i _ _ _ _ _ t c.index-rows-first.is
    (c.tree_end-next.ensures.size _ c.index-rows-first.is) (sym c.may_list.ensures ∙ c.if-not-may_list.true)))

pub list_trees-list_tree-requires : goal.list_trees-list_tree-requires
list_trees-list_tree-requires g t c κs within =
    let part = part_to_list _ _ _ _ _ _ _ _ _ _ c.loop-next.invariant c.requires c.loop-next-test.true
    c.tree_end-next.ensures.size in
    (omega (arith, part.fewer, c.decreases), (within, part.trees))

pub list_trees-returns-in_err-later-clause-listed : goal.list_trees-returns-in_err-later-clause-listed
list_trees-returns-in_err-later-clause-listed g t c =
    λ f k i at e.
    let l = c.loop-next in
    let w = l.invariant.3 f k i at e in
    let t = next_tree _ _ _ _ w.left_is c.loop-next-test.true c.tree_end-next.ensures.size in
    let has = may_agree c.args.verdict c.index-rows-first.result (sym c.may_list.ensures ∙ c.if-not-may_list.false) in
    let reported = c.in_err-later.ensures.listed _ k i (still_at _ _ k i at l.invariant.1) t.all in
    listed_err _ _ _ _ _ c.from_residual.ensures.0
    (list_stops _ _ _ _ _ _ _ _ _ _ _ w t
    (next_listed c.args.verdict k i _ _ _ _ _ t c.index-rows-first.is has) reported)

pub list_trees-loop-next-preserved : goal.list_trees-loop-next-preserved
list_trees-loop-next-preserved g t c =
    let o = g.O.Out.progress in
    let l = c.loop-next in
    let back = back_again c.args.self.now.locations l.self.locations c.list_tree.new.self.locations l.invariant.1
    c.in_ok-later.ensures.back in
    lists_go_on (o c.args.out.now) (o l.out) (o c.list_tree.new.out) c.args.later l.later c.in_ok-later.later
    c.args.verdict c.args.rows.now l.next c.args.self.now.locations l.self.locations c.list_tree.new.self.locations
    _ _ l.invariant c.requires.1 c.loop-next-test.true c.tree_end-next.ensures.size back
    (λ f k i at e.
    let w = l.invariant.3 f k i at e in
    let t = next_tree _ _ _ _ w.left_is c.loop-next-test.true c.tree_end-next.ensures.size in
    let has = may_agree c.args.verdict c.index-rows-first.result (sym c.may_list.ensures ∙ c.if-not-may_list.false) in
    let reported = c.in_ok-later.ensures.listed _ k i (still_at _ _ k i at l.invariant.1) t.all in
    list_goes_on _ _ _ _ _ _ _ _ _ _ _ _ w t
    (next_listed c.args.verdict k i _ _ _ _ _ t c.index-rows-first.is has) reported)

pub list_trees-returns-clause-listed : goal.list_trees-returns-clause-listed
list_trees-returns-clause-listed g t c =
    λ f k i at e.
    let l = c.loop-next in
    let o = g.O.Out.progress in
    list_ends (o c.args.out.now) (o l.out) c.args.later l.later (listed c.args.verdict k i) c.args.rows.now l.next f
    refl (l.invariant.3 f k i at e) (omega (arith, c.loop-next-test.false))

pub list_trees-returns-clause-back : goal.list_trees-returns-clause-back
list_trees-returns-clause-back g t c = c.loop-next.invariant.1
