use Rattle.std.proofs.Common.{subst}
use Rattle.js_output.specs.Suite.{AreGroupLines}
use Rattle.js_output.specs.SuiteText.{group_seen}
use Rattle.js_output.proofs.SuiteLists.{group_more, groups_all}
use Rattle.js_output.proofs.suite_judging.judged_lines.Goals as goal

pub loop-number-preserved : goal.loop-number-preserved
loop-number-preserved c =
    let (these, is, lines) = c.in_ok-judge_group.ensures in
    let docs = c.args.schemas.now in
    let here = subst (λ g. AreGroupLines docs c.loop-number.number (group_seen g) these)
    c.index-groups-number.is lines in
    group_more docs c.args.groups.now c.loop-number.number c.index-groups-number.result c.loop-number.lines.items these
    c.judge_group.new.lines.items c.loop-number-test.true is here c.loop-number.invariant

pub returns : goal.returns
returns c = groups_all c.args.schemas.now c.args.groups.now c.loop-number.number c.loop-number.lines.items
    c.loop-number-test.false c.loop-number.invariant
