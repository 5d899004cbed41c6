use Rattle.std.proofs.Common.{sym, ap, ◌∙◌}
use Rattle.js_doc.specs.Compact.{compact_items}
use Rattle.js_doc.specs.Value.{items}
use Rattle.js_tree.specs.FlatState.{row_of}
use Rattle.js_tree.proofs.Pieces.{stops_at_comma, stops_at_item, item_goes, array_ends}
use Rattle.js_tree.proofs.NotedRows.{leaf_next, leaf_skipped, no_leaf}
use Rattle.js_doc.proofs.BytesGone.{same_left}
use Rattle.js_tree.proofs.formats.flat_text.put_noted.Goals as goal

pub loop-row-preserved-then-not-is_noted : goal.loop-row-preserved-then-not-is_noted
loop-row-preserved-then-not-is_noted g c =
    let l = c.loop-row in
    let silent = sym c.is_noted.ensures ∙ c.if-not-is_noted.true in
    let skipped = leaf_skipped row_of c.args.rows.now l.row-index _ c.loop-row-test.true c.row-item.is silent in
    same_left _ _ _ _ _ l.invariant (ap (λ vs. compact_items l.later (items vs)) skipped)

pub returns-in_err-put_comma : goal.returns-in_err-put_comma
returns-in_err-put_comma g c =
    let speaks = sym c.is_noted.ensures ∙ c.if-not-is_noted.false in
    let next = leaf_next row_of c.args.rows.now _ _ c.loop-row-test.true c.row-item.is speaks in
    stops_at_comma _ _ _ _ _ _ _ _ _ c.loop-row.invariant next
    c.from_residual.ensures.0 c.in_err-put_comma.ensures.comma

pub returns-in_err-put_leaf : goal.returns-in_err-put_leaf
returns-in_err-put_leaf g c =
    let speaks = sym c.is_noted.ensures ∙ c.if-not-is_noted.false in
    let next = leaf_next row_of c.args.rows.now _ _ c.loop-row-test.true c.row-item.is speaks in
    stops_at_item _ _ _ _ _ _ _ _ _ _ c.loop-row.invariant next c.in_ok-put_comma.ensures.comma
    c.from_residual-in_err-put_leaf.ensures.0 c.in_err-put_leaf.ensures

pub loop-row-preserved : goal.loop-row-preserved
loop-row-preserved g c =
    let speaks = sym c.is_noted.ensures ∙ c.if-not-is_noted.false in
    let next = leaf_next row_of c.args.rows.now _ _ c.loop-row-test.true c.row-item.is speaks in
    item_goes _ _ _ _ _ _ _ _ _ _ c.loop-row.invariant next c.in_ok-put_comma.ensures.comma
    c.in_ok-put_comma.ensures.later c.in_ok-put_leaf.ensures

pub returns : goal.returns
returns g c =
    let l = c.loop-row in
    let none = no_leaf row_of c.args.rows.now l.row-index c.loop-row-test.false in
    array_ends _ _ _ _ _ _ _ l.invariant none c.put.ensures
