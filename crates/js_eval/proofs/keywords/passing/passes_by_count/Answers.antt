use Rattle.js_eval.proofs.keywords.passing.passes_by_count.Goals as goal

pub returns-in-Contains : goal.returns-in-Contains
returns-in-Contains c = λ matching k verdicts said many succeeded.
    rw (c.in-Contains.is) (c.contains_passes.ensures verdicts succeeded)
