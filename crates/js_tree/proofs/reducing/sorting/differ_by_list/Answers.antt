use Rattle.std.proofs.Common.{◌≡◌, sym, length, arith}
use Rattle.js_tree.proofs.Differing.{reached_next, reached_all}
use Rattle.js_tree.proofs.reducing.sorting.differ_by_list.Goals as goal

pub loop-seen-preserved : goal.loop-seen-preserved
loop-seen-preserved c =
    let next = c.is_before.ensures c.if-not-is_before.false in
    reached_next c.args.trees.now c.loop-seen.place c.last_mark-next.result c.loop-seen.seen next.0
    next.1 c.loop-seen.invariant

pub returns : goal.returns
returns c =
    let all : c.loop-seen.seen ≡ length c.args.trees.now = omega arith in
    sym (reached_all c.args.trees.now c.loop-seen.place c.loop-seen.seen c.loop-seen.invariant all)
