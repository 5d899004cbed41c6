use Rattle.std.proofs.Common.{[], map, ap}
use Rattle.js_doc.specs.Value.{text}
use Rattle.js_tree.proofs.Pieces.{stops_in, stops_at_comma, stops_at_item, item_goes, array_ends, seen_at, seen_all}
use Rattle.js_tree.proofs.formats.node_text.put_names.Goals as goal

pub returns-in_err-put : goal.returns-in_err-put
returns-in_err-put g c = stops_in _ _ _ _ _ c.from_residual.ensures.0 c.in_err-put.ensures

pub returns-in_err-put_comma : goal.returns-in_err-put_comma
returns-in_err-put_comma g c =
    let l = c.loop-name in
    let next = ap (map text) (seen_at (λ name. name.now) c.args.names.now l.name-index
    (record { ref_ptr = (0, 0); now = [] }) c.loop-name-test.true) in
    stops_at_comma _ _ _ _ _ _ _ _ _ l.invariant next
    c.from_residual-in_err-put_comma.ensures.0 c.in_err-put_comma.ensures.comma

pub returns-in_err-put_string : goal.returns-in_err-put_string
returns-in_err-put_string g c =
    let l = c.loop-name in
    let next = ap (map text) (seen_at (λ name. name.now) c.args.names.now l.name-index
    (record { ref_ptr = (0, 0); now = [] }) c.loop-name-test.true) in
    stops_at_item _ _ _ _ _ _ _ _ _ _ l.invariant next c.in_ok-put_comma.ensures.comma
    c.from_residual-in_err-put_string.ensures.0 c.in_err-put_string.ensures

pub loop-name-preserved : goal.loop-name-preserved
loop-name-preserved g c =
    let l = c.loop-name in
    let next = ap (map text) (seen_at (λ name. name.now) c.args.names.now l.name-index
    (record { ref_ptr = (0, 0); now = [] }) c.loop-name-test.true) in
    item_goes _ _ _ _ _ _ _ _ _ _ l.invariant next c.in_ok-put_comma.ensures.comma c.in_ok-put_comma.ensures.later
    c.in_ok-put_string.ensures

pub returns : goal.returns
returns g c =
    let l = c.loop-name in
    let none = ap (map text) (seen_all (λ name. name.now) c.args.names.now l.name-index c.loop-name-test.false) in
    array_ends _ _ _ _ _ _ _ l.invariant none c.put-2.ensures
