use Rattle.std.proofs.Common.{sym, ◌∙◌}
use Rattle.js_tree.specs.Rows.RelativeState.{absolute_part}
use Rattle.js_tree.proofs.RowsOfTrees.ApartRows.{ends_with_part, equal, same_part, same_schema, unequal}
use Rattle.js_tree.proofs.rows.apart.absolutes_differ.Goals as goal

pub returns-then-ends_differ : goal.returns-then-ends_differ
returns-then-ends_differ c =
    λ y e.
    let a = c.args.a.now in
    let b = c.args.b.now in
    let ends_a = ends_with_part a.schema.now a.absolute_slash a.absolute.now in
    let ends_b = ends_with_part b.schema.now b.absolute_slash b.absolute.now in
    c.ends_differ.ensures c.if-ends_differ.true ends_a.0 ends_b.0 (sym ends_a.1 ∙ (e ∙ ends_b.1))

pub returns-then-eq : goal.returns-then-eq
returns-then-eq c =
    λ y e.
    let a = c.args.a.now in
    let b = c.args.b.now in
    let same = equal c.eq.result a.schema.now b.schema.now c.eq.ensures c.if-eq.true in
    c.parts_differ.ensures y (same_schema a.schema.now b.schema.now (absolute_part a) (absolute_part b) same e)

pub returns-then-is_same_part : goal.returns-then-is_same_part
returns-then-is_same_part c =
    λ y e.
    let a = c.args.a.now in
    let b = c.args.b.now in
    let same = c.is_same_part.ensures c.if-is_same_part.true in
    unequal c.eq.result a.schema.now b.schema.now c.eq.ensures c.if-eq.false
    (same_part a.schema.now b.schema.now (absolute_part a) (absolute_part b) same e)

pub returns : goal.returns
returns c =
    λ y e.
    let a = c.args.a.now in
    let b = c.args.b.now in
    let ends_a = c.end_of-end_of_a.ensures in
    let ends_b = c.end_of-end_of_b.ensures in
    c.ends_differ-2.ensures y ends_a.0 ends_b.0 (sym ends_a.1 ∙ (e ∙ ends_b.1))
