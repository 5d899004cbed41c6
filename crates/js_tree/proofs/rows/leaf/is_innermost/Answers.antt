use Rattle.std.proofs.Common.{arith}
use Rattle.std.proofs.lemmas.Bool.Decides.{nat_tests}
use Rattle.js_tree.proofs.RowsOfTrees.Leaves.{innermost_at}
use Rattle.js_tree.proofs.rows.leaf.is_innermost.Goals as goal

pub returns-then-node-keyword : goal.returns-then-node-keyword
returns-then-node-keyword c = λ fits.
    innermost_at c.in-Some.node.now c.args.nodes.now c.args.keyword c.args.instance c.in-Some.ensures.value
    c.if-node-keyword.true (grind (arith, nat_tests, fits))
