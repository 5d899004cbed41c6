use Rattle.js_bundle.proofs.finished.place_below.place_with.Goals as goal

pub returns-in-Some-clause-found : goal.returns-in-Some-clause-found
returns-in-Some-clause-found c = λ n h. c.in-Some.ensures n (c.rank_in.ensures n h)

pub returns-in-None-clause-found : goal.returns-in-None-clause-found
returns-in-None-clause-found c = λ n h. c.in-None.ensures n (c.rank_in.ensures n h)
