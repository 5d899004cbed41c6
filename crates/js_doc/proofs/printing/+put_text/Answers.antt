use Rattle.std.proofs.Common.{[], ◌∷◌, false, refl, sym}
use Rattle.js_doc.specs.Seen.{value_of, items_seen, members_seen}
use Rattle.js_doc.specs.Compact.{quoted, compact, comma_if, compact_items, compact_members}
use Rattle.js_doc.proofs.BytesGone.{goes_on, same_left, puts_err, stops_first, puts_last}
use Rattle.js_doc.proofs.CompactPieces.{item_left, item_end, entry_left, name_next, value_next}
use Rattle.js_doc.proofs.printing.+put_text.Goals as goal

pub put_items-returns-in_err-put : goal.put_items-returns-in_err-put
put_items-returns-in_err-put g t c = stops_first _ _ (91 ∷ []) (compact_items false (items_seen c.args.docs.now)) _
    c.from_residual.ensures.0 c.in_err-put.ensures

pub put_items-returns-in_err-put_comma : goal.put_items-returns-in_err-put_comma
put_items-returns-in_err-put_comma g t c =
    let l = c.loop-doc in
    let w = same_left _ _ _ _ _ l.invariant
    (item_left c.args.docs.now l.doc-index c.doc-item.result l.later c.loop-doc-test.true (sym c.doc-item.is)) in
    puts_err _ _ _ (comma_if l.later) _ _ _ c.from_residual-in_err-put_comma.ensures.0 w c.in_err-put_comma.ensures

pub put_items-returns-in_err-put_text : goal.put_items-returns-in_err-put_text
put_items-returns-in_err-put_text g t c =
    let l = c.loop-doc in let w = same_left _ _ _ _ _ l.invariant
    (item_left c.args.docs.now l.doc-index c.doc-item.result l.later c.loop-doc-test.true (sym c.doc-item.is)) in
    let x = goes_on _ _ _ (comma_if l.later) _ _ w c.in_ok-put_comma.ensures in
    puts_err _ _ _ (compact (value_of c.doc-item.result)) _ _ _ c.from_residual-in_err-put_text.ensures.0 x
    c.in_err-put_text.ensures

pub put_items-loop-doc-preserved : goal.put_items-loop-doc-preserved
put_items-loop-doc-preserved g t c =
    let l = c.loop-doc in let w = same_left _ _ _ _ _ l.invariant
    (item_left c.args.docs.now l.doc-index c.doc-item.result l.later c.loop-doc-test.true (sym c.doc-item.is)) in
    let x = goes_on _ _ _ (comma_if l.later) _ _ w c.in_ok-put_comma.ensures in
    goes_on _ _ _ (compact (value_of c.doc-item.result)) _ _ x c.in_ok-put_text.ensures

pub put_items-returns : goal.put_items-returns
put_items-returns g t c =
    let l = c.loop-doc in
    let w = same_left _ _ _ _ _ l.invariant (item_end c.args.docs.now l.doc-index l.later c.loop-doc-test.false) in
    puts_last _ _ _ (93 ∷ []) _ _ w c.put-2.ensures

pub put_members-returns-in_err-put : goal.put_members-returns-in_err-put
put_members-returns-in_err-put g t c = stops_first _ _ (123 ∷ [])
    (compact_members false (members_seen c.args.entries.now)) _ c.from_residual.ensures.0 c.in_err-put.ensures

pub put_members-returns-in_err-put_comma : goal.put_members-returns-in_err-put_comma
put_members-returns-in_err-put_comma g t c =
    let l = c.loop-name in
    let e = c.loop-name-item.result in
    let w = same_left _ _ _ _ _ l.invariant (entry_left c.args.entries.now l.name-index e l.later e.0
    c.loop-name-test.true (sym c.loop-name-item.is) refl) in
    puts_err _ _ _ (comma_if l.later) _ _ _ c.from_residual-in_err-put_comma.ensures.0 w c.in_err-put_comma.ensures

pub put_members-returns-in_err-put_string : goal.put_members-returns-in_err-put_string
put_members-returns-in_err-put_string g t c =
    let l = c.loop-name in
    let k = c.as_str.result.now in
    let x = name_next _ _ _ _ c.args.entries.now l.name-index c.loop-name-item.result l.later k l.invariant
    c.loop-name-test.true (sym c.loop-name-item.is) c.as_str.ensures c.in_ok-put_comma.ensures in
    puts_err _ _ _ (quoted k) _ _ _ c.from_residual-in_err-put_string.ensures.0 x c.in_err-put_string.ensures

pub put_members-returns-in_err-put-2 : goal.put_members-returns-in_err-put-2
put_members-returns-in_err-put-2 g t c =
    let l = c.loop-name in
    let k = c.as_str.result.now in
    let x = name_next _ _ _ _ c.args.entries.now l.name-index c.loop-name-item.result l.later k l.invariant
    c.loop-name-test.true (sym c.loop-name-item.is) c.as_str.ensures c.in_ok-put_comma.ensures in
    let y = goes_on _ _ _ (quoted k) _ _ x c.in_ok-put_string.ensures in
    puts_err _ _ _ (58 ∷ []) _ _ _ c.from_residual-in_err-put-2.ensures.0 y c.in_err-put-2.ensures

pub put_members-returns-in_err-put_text : goal.put_members-returns-in_err-put_text
put_members-returns-in_err-put_text g t c =
    let l = c.loop-name in let w = value_next _ _ _ _ _ _ c.args.entries.now l.name-index c.loop-name-item.result
    l.later _ l.invariant c.loop-name-test.true (sym c.loop-name-item.is) c.as_str.ensures
    c.in_ok-put_comma.ensures c.in_ok-put_string.ensures c.in_ok-put-2.ensures in
    puts_err _ _ _ (compact (value_of c.loop-name-item.result.1)) _ _ _ c.from_residual-in_err-put_text.ensures.0 w
    c.in_err-put_text.ensures

pub put_members-loop-name-preserved : goal.put_members-loop-name-preserved
put_members-loop-name-preserved g t c =
    let l = c.loop-name in let w = value_next _ _ _ _ _ _ c.args.entries.now l.name-index c.loop-name-item.result
    l.later _ l.invariant c.loop-name-test.true (sym c.loop-name-item.is) c.as_str.ensures
    c.in_ok-put_comma.ensures c.in_ok-put_string.ensures c.in_ok-put-2.ensures in
    goes_on _ _ _ (compact (value_of c.loop-name-item.result.1)) _ _ w c.in_ok-put_text.ensures
