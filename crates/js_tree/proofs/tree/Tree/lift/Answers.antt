use Rattle.std.proofs.Common.{ap, sym, ◌∙◌}
use Rattle.js_tree.specs.OutputUnit.{noted}
use Rattle.js_tree.proofs.Compaction.{lifted_to}
use Rattle.js_tree.proofs.tree.Tree.lift.Goals as goal

pub returns-in-Some : goal.returns-in-Some
returns-in-Some c =
    lifted_to noted c.args.self.now _ c.self.inside.unit c.self.inside.children c.pop.new.self.items c.in-Some.child
    c.self.view_is (sym c.if-node_stands.ensures)
    (ap (λ i. i.children) (sym c.self-inside.view_is) ∙ c.in-Some.ensures.items) (sym c.replace.ensures.after)
