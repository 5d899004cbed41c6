use Rattle.std.proofs.Common.{[], arith, refl}
use Rattle.js_eval.proofs.Recursion.Stepping.{leaf_step, skipped_step}
use Rattle.js_eval.proofs.evaluation.steps.childless_node.Goals as goal

pub returns-then-may_drop : goal.returns-then-may_drop
returns-then-may_drop g c = λ depth path.
    let place = g.W.World.site c.args.world.now c.args.case.place in
    let v = g.W.World.value_of c.args.case.value in
    let dropped = c.if-may_drop.true in
    skipped_step (g.W.World.schemas c.args.world.now) g.W.World.text_of g.R.Reporter.takes depth path place v
    (g.W.World.keyword_of c.args.case.keyword) c.args.matching c.in_ok-passes.passes
    c.args.state.now _ c.args.into.now
    c.if-passes.true c.in_ok-passes.ensures (c.may_drop.ensures.silent place v c.args.matching 0 [] [] dropped)
    (c.may_drop.ensures.drops dropped)
    refl refl (let l = c.requires.left in
    omega (arith, l)) (record { path = refl; scope = refl; keyword = refl; instance = refl })

pub returns : goal.returns
returns g c = λ depth path.
    leaf_step (g.W.World.schemas c.args.world.now) g.W.World.text_of g.R.Reporter.takes depth path
    (g.W.World.site c.args.world.now c.args.case.place) (g.W.World.value_of c.args.case.value)
    (g.W.World.keyword_of c.args.case.keyword) c.args.matching c.in_ok-passes.passes
    c.args.state.now _ c.args.into.now c.leaf_keyword.new.self
    c.in_ok-passes.ensures c.in_ok-leaf_keyword.ensures.reported
    refl refl (let l = c.requires.left in omega (arith, l))
    (record { path = refl; scope = refl; keyword = c.in_ok-leaf_keyword.ensures.back; instance = refl })
