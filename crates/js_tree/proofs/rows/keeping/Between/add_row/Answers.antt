use Rattle.std.proofs.Common.{◌≡◌, ◌++◌, ◌∷◌, [], OnOk, map, subst}
use Rattle.js_tree.specs.Rows.RelativeState.{relative_row}
use Rattle.js_tree.proofs.RowsOfTrees.AddedRows.{unit_stays}
use Rattle.js_tree.proofs.rows.keeping.Between.add_row.Goals as goal

pub returns-then-is_at-clause-row : goal.returns-then-is_at-clause-row
returns-then-is_at-clause-row c =
    λ u k i p e.
    let at = c.is_at.ensures c.if-is_at.true in
    subst (λ w. OnOk c.move_row.result
    (map relative_row c.move_row.new.kept.items ≡ map relative_row c.args.kept.now.items ++ (w, c.args.size) ∷ []))
    (unit_stays c.args.self.now c.args.start c.args.row.now u k i p e at.0 at.1) c.move_row.ensures.row

pub returns-clause-row : goal.returns-clause-row
returns-clause-row c =
    λ u k i p e.
    subst (λ w. OnOk c.move_row-2.result (map relative_row c.move_row-2.new.kept.items
    ≡ map relative_row c.args.kept.now.items ++ (w, c.args.size) ∷ []))
    (c.in_ok-prepend_pending.ensures.row u k i p e) c.move_row-2.ensures.row
