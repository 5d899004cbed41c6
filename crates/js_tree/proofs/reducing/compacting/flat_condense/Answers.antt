use Rattle.std.proofs.Common.{ap}
use Rattle.js_tree.proofs.NotedRows.{noted_of-condensed}
use Rattle.js_tree.proofs.reducing.compacting.flat_condense.Goals as goal

pub returns-clause-units : goal.returns-clause-units
returns-clause-units c = noted_of-condensed _ _ c.requires.0 (ap (λ s. s.rows) c.requires.1)
    (c.keep_rows.ensures c.requires.0 (ap (λ s. s.rows) c.requires.1))
