use Rattle.std.proofs.Common.{arith}
use Rattle.js_tree.specs.FlatState.{row_of}
use Rattle.js_tree.proofs.FlatRows.{first_tree}
use Rattle.js_tree.proofs.Nested.{goes_on}
use Rattle.js_tree.proofs.collecting.nesting.ends_after.Goals as goal

pub overflow_add-next : goal.overflow_add-next
overflow_add-next c =
    let g = c.loop-left.invariant.1 c.requires.trees.0 c.requires.trees.1 in
    let t = first_tree row_of c.args.rows.now c.loop-left.next _ _ g.1 (omega arith) c.index-rows-next.is in
    omega (arith, t.fits)

pub loop-left-smaller : goal.loop-left-smaller
loop-left-smaller c =
    let g = c.loop-left.invariant.1 c.requires.trees.0 c.requires.trees.1 in
    let t = first_tree row_of c.args.rows.now c.loop-left.next _ _ g.1 (omega arith) c.index-rows-next.is in
    omega (arith, t.size)

pub loop-left-preserved : goal.loop-left-preserved
loop-left-preserved c =
    let l = c.loop-left in
    let x = c.index-rows-next.result in
    let g = l.invariant.1 c.requires.trees.0 c.requires.trees.1 in
    let t = first_tree row_of c.args.rows.now l.next g.0 x g.1 (omega arith) c.index-rows-next.is in (
      omega (arith, t.fits),
      λ f e. let g = l.invariant.1 f e in goes_on c.args.rows.now l.next l.left c.args.count f g.0
          x g.1 (omega arith) c.index-rows-next.is (omega arith) g.2,
    )
