use Rattle.std.proofs.Common.{ap, sym, ◌∙◌}
use Rattle.json.specs.Print.{escape}
use Rattle.js_tree.proofs.RowsOfTrees.RelativeRowsCollected.{token_stands}
use Rattle.js_tree.proofs.rows.relative_rows.name_or_kept.Goals as goal

pub returns-then-is_token : goal.returns-then-is_token
returns-then-is_token c =
    sym (ap escape (c.is_token.ensures c.if-is_token.true) ∙ token_stands c.args.name.now c.requires)
