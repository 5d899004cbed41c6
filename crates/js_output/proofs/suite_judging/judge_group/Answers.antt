use Rattle.std.proofs.lemmas.Result.{on_ok_weaker}
use Rattle.js_output.specs.code.SuiteJudging.{basis_of}
use Rattle.js_output.proofs.SuiteLists.{group_reported}
use Rattle.js_output.proofs.suite_judging.judge_group.Goals as goal

pub returns : goal.returns
returns c =
    let basis = basis_of c.in_ok-entry.entry in
    on_ok_weaker c.judge_tests.result
    (group_reported c.args.schemas.now c.args.number c.args.group.now basis c.as_slice.result.now
    c.args.lines.now.items c.judge_tests.new.lines.items c.in_ok-entry.ensures.basis c.as_slice.ensures.value)
    c.judge_tests.ensures
