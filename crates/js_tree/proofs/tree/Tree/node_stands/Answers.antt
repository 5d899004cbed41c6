use Rattle.std.proofs.Common.{◌≡◌, ◌∙◌, sym, ap, false}
use Rattle.js_tree.specs.OutputUnit.{noted}
use Rattle.js_tree.specs.Forest.{tree_count}
use Rattle.js_tree.proofs.Forests.{tree_count-forest_of}
use Rattle.js_tree.proofs.Rewrites.{leb-at_least_two}
use Rattle.js_tree.proofs.tree.Tree.node_stands.Goals as goal

pub returns-else-is_noted : goal.returns-else-is_noted
returns-else-is_noted c =
    let n = sym c.is_noted.ensures ∙ c.if-is_noted.false in
    let e : tree_count c.args.self.now.below ≡ c.len.result = ap (λ t. tree_count t.below) (sym c.self.view_is)
    ∙ tree_count-forest_of c.self.inside.children ∙ sym c.len.ensures in
    let r : noted c.args.self.now.root ≡ false = ap (λ t. noted t.root) (sym c.self.view_is) ∙ n in
    rw (r, e) (leb-at_least_two c.len.result)
