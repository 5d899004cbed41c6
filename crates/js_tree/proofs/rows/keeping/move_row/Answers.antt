use Rattle.std.proofs.Common.{◌≡◌, List, ◌++◌, ◌∷◌, [], refl, ap, ◌∙◌}
use Rattle.js_tree.specs.Seen.{note_of}
use Rattle.js_tree.specs.declared.rows.relative_rows.RelativeRow.{RelativeRow}
use Rattle.js_tree.proofs.RowsOfTrees.AddedRows.{row_added}
use Rattle.js_tree.proofs.rows.keeping.move_row.Goals as goal

-- the rows with one more, after memory was reserved for it
one_more : (old ready new : List RelativeRow) (x : RelativeRow) → ready ≡ old
    → new ≡ ready ++ x ∷ [] → new ≡ old ++ x ∷ []
one_more old ready new x same more = more ∙ ap (λ rows. rows ++ x ∷ []) same

pub returns-clause-row : goal.returns-clause-row
returns-clause-row c =
    row_added c.args.kept.now.items c.push_reserved.new.self.items c.args.row.now _ c.args.size
    (note_of c.replace.result)
    (one_more c.args.kept.now.items c.reserve.new.self.items c.push_reserved.new.self.items _ c.reserve.ensures.items
    c.push_reserved.ensures.items) (ap note_of c.replace.ensures.value) refl
