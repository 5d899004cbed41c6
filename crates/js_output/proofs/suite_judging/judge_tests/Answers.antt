use Rattle.std.proofs.Common.{[], ◌∷◌, ◌++◌, sym, ap, ◌∙◌, subst, append_assoc, append-nil}
use Rattle.js_output.specs.Suite.{IsLine}
use Rattle.js_output.specs.code.SuiteJudging.{basis_of}
use Rattle.js_output.specs.SuiteText.{test_seen}
use Rattle.js_output.proofs.SuiteLists.{test_more, tests_all}
use Rattle.js_output.proofs.suite_judging.judge_tests.Goals as goal

pub loop-number-init : goal.loop-number-init
loop-number-init c = ([], sym (append-nil c.args.lines.now.items), λ rest h. h)

pub loop-number-preserved : goal.loop-number-preserved
loop-number-preserved c =
    let (done, is, leads) = c.loop-number.invariant in
    let line = c.in_ok-line.line in
    let basis = basis_of c.args.entry.now in
    let here = subst (λ t. IsLine basis c.args.group c.loop-number.number (test_seen t) line) c.index-tests-number.is
    c.in_ok-line.ensures in (
      done ++ line ∷ [],
      c.in_ok-push.ensures.items ∙ ap (λ ls. ls ++ line ∷ []) is ∙ append_assoc c.args.lines.now.items done (line ∷ []),
      test_more basis c.args.group c.args.tests.now c.loop-number.number c.index-tests-number.result done line
          c.loop-number-test.true here leads,
    )

pub returns : goal.returns
returns c =
    let (done, is, leads) = c.loop-number.invariant in (
      done,
      is,
      tests_all (basis_of c.args.entry.now) c.args.group c.args.tests.now c.loop-number.number done
          c.loop-number-test.false leads,
    )
