use Rattle.std.specs.Prelude.{[]}
use Rattle.js_tree.proofs.RowsOfTrees.RelativeRowsCollected.{innermost_is}
use Rattle.js_tree.proofs.rows.relative_rows.innermost.Goals as goal

pub returns-in-Some : goal.returns-in-Some
returns-in-Some c = innermost_is c.in-Some.node.now c.args.nodes.now [] c.in-Some.ensures.value
