use Rattle.std.proofs.Common.{eqb-true, sym, ◌∙◌}
use Rattle.js_tree.proofs.RowsOfTrees.ApartRows.{ends_with_nothing, ends_with_part, ends_with_schema}
use Rattle.js_tree.proofs.rows.apart.end_of.Goals as goal

pub returns-then-slash : goal.returns-then-slash
returns-then-slash c = ends_with_part c.args.schema.now c.args.slash c.args.absolute.now

pub returns-then-not-is_empty : goal.returns-then-not-is_empty
returns-then-not-is_empty c = ends_with_part c.args.schema.now c.args.slash c.args.absolute.now

pub returns-then-stand_as_they_are : goal.returns-then-stand_as_they_are
returns-then-stand_as_they_are c =
    let end = c.last_bytes-end in
    let stand = sym c.stand_as_they_are.ensures ∙ c.if-stand_as_they_are.true in
    let none = eqb-true _ _ (sym c.is_empty.ensures ∙ c.if-not-is_empty.false) in
    let text = sym c.as_bytes.ensures.value ∙ end.ensures.1 in
    ends_with_schema c.args.schema.now end.ensures.0 end.result.now c.args.slash c.args.absolute.now c.if-slash.false
    none text stand

pub returns-else-stand_as_they_are : goal.returns-else-stand_as_they_are
returns-else-stand_as_they_are c = ends_with_nothing c.args.schema.now c.args.slash c.args.absolute.now
