use Rattle.std.proofs.Common.{arith, ap}
use Rattle.std.proofs.lemmas.Grind.{common_steps}
use Rattle.js_tree.specs.Forest.{forest_of}
use Rattle.js_tree.proofs.WholeTreeCollected.{opens}
use Rattle.js_tree.proofs.collecting.boxed.BoxedCollector.enter.Goals as goal

pub returns-in_ok-push-clause-takes : goal.returns-in_ok-push-clause-takes
returns-in_ok-push-clause-takes c =
    opens c.args.self.now.found c.args.self.now.nodes.items c.push.new.self.items
    (record { head = c.args.head; children = c.new.result })
    (let e = c.is_none.ensures in let f = c.if-is_none.true in
    grind (arith, common_steps, e, f)) c.in_ok-push.ensures.items (ap forest_of c.new.ensures.items)
