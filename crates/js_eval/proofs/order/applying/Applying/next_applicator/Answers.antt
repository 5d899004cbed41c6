use Rattle.std.proofs.Common.{sym, ◌∙◌, rules}
use Rattle.js_eval.proofs.Applicators.{passed_over, taken}
use Rattle.js_eval.proofs.order.applying.Applying.next_applicator.Goals as goal

pub returns-then-applies : goal.returns-then-applies
returns-then-applies c =
    let l = c.loop-self.self in (
      sym c.loop-self.invariant
          ∙ taken l.members.now l.names.now l.rank _ _ (sym c.applies.ensures ∙ c.if-applies.true)
          (sym c.in_ok-turn.ensures.keyword) l.in_step c.loop-self-test.true (search rules),
      c.in_ok-turn.ensures.turn,
    )

pub loop-self-preserved : goal.loop-self-preserved
loop-self-preserved c =
    let l = c.loop-self.self in
    passed_over l.members.now l.names.now l.rank _ (sym c.applies.ensures ∙ c.if-applies.false) l.in_step
    c.loop-self-test.true (search rules) ∙ c.loop-self.invariant
