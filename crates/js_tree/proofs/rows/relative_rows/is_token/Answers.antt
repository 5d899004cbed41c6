use Rattle.std.proofs.Common.{sym}
use Rattle.js_tree.proofs.RowsOfTrees.RelativeRowsCollected.{token_there}
use Rattle.js_tree.proofs.rows.relative_rows.is_token.Goals as goal

pub returns-then-added-eq47 : goal.returns-then-added-eq47
returns-then-added-eq47 c = λ t. token_there c.args.added.now c.args.name.now c.eq.result (sym c.if-is_empty.ensures)
    c.if-added-eq47.true c.eq.ensures t
