use Rattle.std.proofs.lemmas.Result.{err_from_is_err_and}
use Rattle.js_output.specs.SuiteText.{groups_seen, suite_reading}
use Rattle.js_output.proofs.SuiteAnswers.{suite-fault, suite-lines}
use Rattle.js_output.proofs.suite.run_suite_text.Goals as goal

pub returns-in_err-groups-clause-answer : goal.returns-in_err-groups-clause-answer
returns-in_err-groups-clause-answer g c =
    let p = err_from_is_err_and c.from_residual.result c.from_residual.ensures.1 in
    rw (p.1, p.2) (suite-fault c.args.schemas.now g.W.Write.contents (suite_reading c.args.suite.now)
    c.args.out.now c.in_err-groups.field-0.0 c.in_err-groups.ensures.err)

pub returns-clause-answer : goal.returns-clause-answer
returns-clause-answer g c =
    let reported = rw c.as_slice-2.ensures.value at c.write_lines.ensures.answer in
    let lines = rw c.as_slice.ensures.value at c.in_ok-lines.ensures in
    suite-lines c.args.schemas.now g.W.Write.contents (suite_reading c.args.suite.now)
    (groups_seen c.in_ok-groups.groups.items) c.in_ok-lines.lines.items c.args.out.now c.write_lines.new.out
    c.write_lines.result c.in_ok-groups.ensures.ok lines reported
