use Rattle.js_eval.proofs.public_walks.verdict_within.Goals as goal

pub returns-in-Ok-clause-ok : goal.returns-in-Ok-clause-ok
returns-in-Ok-clause-ok c =
    let h = c.in-Ok.ensures in
    record { result = h.result; within = record { is = h.is; stands = h.stands }; verdict = h.verdict }
