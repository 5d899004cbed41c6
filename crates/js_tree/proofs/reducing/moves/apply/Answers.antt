use Rattle.std.proofs.Common.{◌≢◌, ◌-◌, arith}
use Rattle.js_tree.specs.Alike.{same_but_keyword}
use Rattle.js_tree.specs.Forest.{empty}
use Rattle.js_tree.specs.OutputUnit.{noted}
use Rattle.js_tree.proofs.MovesAreRewrites.{moved_at_step, moved_at_merge_step}
use Rattle.js_tree.proofs.Searching.{not_made}
use Rattle.js_tree.proofs.reducing.moves.apply.Goals as goal

pub returns-in_default-clause-moved : goal.returns-in_default-clause-moved
returns-in_default-clause-moved c =
    let p : c.args.chosen.now.position ≢ 0 = omega (arith, c.if-chosen-eq0.false) in
    not_made c.move_below.result c.args.chosen.now c.args.tree c.move_below.new.tree p c.in_default.not-Made
    c.move_below.ensures.root c.move_below.ensures.searched

pub returns-in-Made-clause-step : goal.returns-in-Made-clause-step
returns-in-Made-clause-step c =
    λ r. (
      c.move_below.ensures.root,
      moved_at_step noted same_but_keyword c.args.chosen.now.rule empty
          c.args.tree.below (c.args.chosen.now.position - 1) c.move_below.new.tree.below r c.in-Made.ensures.searched,
    )

pub returns-in-Made-clause-step_of_three : goal.returns-in-Made-clause-step_of_three
returns-in-Made-clause-step_of_three c = (
  c.move_below.ensures.root,
  moved_at_merge_step noted same_but_keyword c.args.chosen.now.rule empty
      c.args.tree.below (c.args.chosen.now.position - 1) c.move_below.new.tree.below c.in-Made.ensures.searched,
)
