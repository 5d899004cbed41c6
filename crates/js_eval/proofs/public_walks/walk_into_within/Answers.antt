use Rattle.js_tree.proofs.EventSequences.{passes-inside}
use Rattle.js_tree.specs.Events.{events}
use Rattle.js_eval.proofs.public_walks.walk_into_within.Goals as goal

pub returns-in-Ok-clause-ok : goal.returns-in-Ok-clause-ok
returns-in-Ok-clause-ok g c =
    let h = c.in-Ok.ensures in
    record {
      result = h.result;
      within = record { is = h.is; stands = h.stands };
      passes = passes-inside (λ o. o.collector) g.C.Collector.takes (events h.result) _
          c.walk_from-done.new.into h.passes;
    }
