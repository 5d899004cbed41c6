use Rattle.std.proofs.Common.{pos, subst}
use Rattle.std.specs.Fmt.{signed_decimal}
use Rattle.js_doc.specs.BytesOut.{Goes, Stops}
use Rattle.js_doc.specs.Value.{whole}
use Rattle.js_tree.proofs.Pieces.{stops_in, stops_at_comma, stops_at_item, item_goes, array_ends, seen_at, seen_all}
use Rattle.js_tree.proofs.formats.node_text.put_indexes.Goals as goal

pub returns-in_err-put : goal.returns-in_err-put
returns-in_err-put g c = stops_in _ _ _ _ _ c.from_residual.ensures.0 c.in_err-put.ensures

pub returns-in_err-put_comma : goal.returns-in_err-put_comma
returns-in_err-put_comma g c =
    let l = c.loop-index in
    let next = seen_at (λ index. whole (pos index)) c.args.indexes.now l.index-index 0 c.loop-index-test.true in
    stops_at_comma _ _ _ _ _ _ _ _ _ l.invariant next
    c.from_residual-in_err-put_comma.ensures.0 c.in_err-put_comma.ensures.comma

pub returns-in_err-put_number : goal.returns-in_err-put_number
returns-in_err-put_number g c =
    let o = g.O.Out.progress in
    let l = c.loop-index in
    let next = seen_at (λ index. whole (pos index)) c.args.indexes.now l.index-index 0 c.loop-index-test.true in
    stops_at_item _ _ _ _ _ _ _ _ _ _ l.invariant next c.in_ok-put_comma.ensures.comma
    c.from_residual-in_err-put_number.ensures.0
    (subst (λ z. Stops (o c.put_comma.new.out) (o c.put_number.new.out) (signed_decimal z)) c.from_u64.ensures
    c.in_err-put_number.ensures)

pub loop-index-preserved : goal.loop-index-preserved
loop-index-preserved g c =
    let o = g.O.Out.progress in
    let l = c.loop-index in
    let next = seen_at (λ index. whole (pos index)) c.args.indexes.now l.index-index 0 c.loop-index-test.true in
    item_goes _ _ _ _ _ _ _ _ _ _ l.invariant next c.in_ok-put_comma.ensures.comma c.in_ok-put_comma.ensures.later
    (subst (λ z. Goes (o c.put_comma.new.out) (o c.put_number.new.out) (signed_decimal z)) c.from_u64.ensures
    c.in_ok-put_number.ensures)

pub returns : goal.returns
returns g c =
    let l = c.loop-index in
    let none = seen_all (λ index. whole (pos index)) c.args.indexes.now l.index-index c.loop-index-test.false in
    array_ends _ _ _ _ _ _ _ l.invariant none c.put-2.ensures
