use Rattle.std.proofs.lemmas.Result.{IfOk-weaker}
use Rattle.js_eval.proofs.HeldTogether.{judged_together}
use Rattle.js_eval.proofs.evaluation.steps.is_passed_over.Goals as goal

pub returns-clause-passes : goal.returns-clause-passes
returns-clause-passes g c =
    let S = g.W.World.schemas c.args.world.now in
    let place = g.W.World.site c.args.world.now c.args.case.place in
    let v = g.W.World.value_of c.args.case.value in
    let k = g.W.World.keyword_of c.args.case.keyword in
    IfOk-weaker c.all_pass.result _ _
    (λ b pass e. let all = pass e in judged_together S place v k c.args.matching all.0 all.1 c.requires.listed
    (c.may_drop.ensures.assertion c.if-not-may_drop.false))
    c.all_pass.ensures.pass
