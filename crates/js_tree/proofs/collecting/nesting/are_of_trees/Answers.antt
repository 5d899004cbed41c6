use Rattle.std.proofs.Common.{◌-◌}
use Rattle.js_tree.proofs.Nested.{from_there}
use Rattle.js_tree.proofs.collecting.nesting.are_of_trees.Goals as goal

pub returns-then-not-is_root : goal.returns-then-not-is_root
returns-then-not-is_root c = (
  λ h. absurd cc,
  λ w. let g = from_there c.args.rows.now (c.loop-i.i - 1) w.0 w.1 in let k = c.is_root.ensures.1 g in
      let n = c.if-not-is_root.true in absurd cc,
)
