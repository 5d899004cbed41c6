use Rattle.std.proofs.Common.{ap, ◌∙◌}
use Rattle.js_tree.specs.code.PartOrder.{rank_of}
use Rattle.js_tree.proofs.RowsOfTrees.SiblingsDiffer.{rank-some}
use Rattle.js_tree.proofs.rows.differing.part_rank.Goals as goal

pub returns-else-digits-eq0 : goal.returns-else-digits-eq0
returns-else-digits-eq0 c =
    let digits = c.digit_count-digits in
    rank-some digits.result c.if-digits-eq0.false ∙ ap rank_of digits.ensures
