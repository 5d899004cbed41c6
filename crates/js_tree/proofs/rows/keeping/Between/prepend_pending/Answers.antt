use Rattle.std.proofs.Common.{refl, ap, sym, ◌∙◌}
use Rattle.js_tree.specs.Rows.RelativeState.{part}
use Rattle.js_tree.proofs.RowsOfTrees.AddedRows.{joined_unit}
use Rattle.js_tree.proofs.rows.keeping.Between.prepend_pending.Goals as goal

pub returns-clause-row : goal.returns-clause-row
returns-clause-row c =
    λ u k i p e.
    let whole = sym (ap (λ b. part b c.in_ok-instance.instance.now) (c.in_ok-instance.ensures.plain refl))
    ∙ c.in_ok-instance.ensures.joined p.instance_fits in
    joined_unit c.args.self.now c.args.start c.args.row.now u k i _ _ _ p e
    (c.in_ok-slash.ensures.joined p.keyword_fits) whole refl
