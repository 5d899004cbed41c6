use Rattle.js_eval.specs.Seen.{instance_of}
use Rattle.js_eval.proofs.JudgedTogether.{judged_together}
use Rattle.js_eval.proofs.keywords.others.judge_others.Goals as goal

pub returns : goal.returns
returns c =
    judged_together c.args.schemas.now c.args.place (instance_of c.args.value) c.args.matching c.assertions.result.now
    c.names_at.result.now c.in_ok-pass.pass c.count_of-count.result
    c.requires c.assertions.ensures c.names_at.ensures c.in_ok-pass.ensures c.count_of-count.ensures
