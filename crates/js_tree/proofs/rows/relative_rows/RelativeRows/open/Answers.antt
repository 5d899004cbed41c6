use Rattle.std.proofs.Common.{arith, [], ◌∷◌, ap, ◌∙◌}
use Rattle.js_tree.specs.Rows.RelativeState.{open_nodes}
use Rattle.js_tree.proofs.RowsOfTrees.RelativeRowsCollected.{open_nodes-append}
use Rattle.js_tree.proofs.rows.relative_rows.RelativeRows.open.Goals as goal

pub returns-clause-nodes : goal.returns-clause-nodes
returns-clause-nodes c =
    ap (λ os. open_nodes os []) c.push_reserved-2.ensures.items
    ∙ (open_nodes-append c.args.self.now.nodes.items _ []
    ∙ ap (λ n. record { number = n; keyword = c.args.keyword_length; instance = c.args.instance_length }
    ∷ open_nodes c.args.self.now.nodes.items []) (let l = c.len-number.ensures in
    let r = c.args.self.now.rows.ok in omega (arith, l, r)))
