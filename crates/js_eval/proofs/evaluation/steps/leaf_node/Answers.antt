use Rattle.std.proofs.Common.{[], arith, refl, true}
use Rattle.js_eval.proofs.Recursion.Stepping.{skipped_step}
use Rattle.js_eval.proofs.evaluation.steps.leaf_node.Goals as goal

pub returns-then-over-clause-done : goal.returns-then-over-clause-done
returns-then-over-clause-done g c = λ depth path.
    let S = g.W.World.schemas c.args.world.now in
    let place = g.W.World.site c.args.world.now c.args.case.place in
    let v = g.W.World.value_of c.args.case.value in
    let k = g.W.World.keyword_of c.args.case.keyword in
    let over = c.if-over.true in
    let are = c.in_ok-over.ensures in
    skipped_step S g.W.World.text_of g.R.Reporter.takes depth path place v k c.args.matching true
    c.args.state.now _ c.args.into.now
    refl (are.passes over) (are.silent place v c.args.matching 0 [] [] over) (are.drops over)
    refl refl (let l = c.requires.left in
    omega (arith, l)) (record { path = refl; scope = refl; keyword = refl; instance = refl })
