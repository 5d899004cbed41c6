use Rattle.std.proofs.Common.{get_or, rules}
use Rattle.json.specs.Print.{escape_byte}
use Rattle.js_doc.proofs.BytesGone.{goes_on, same_left, puts_err, all_gone}
use Rattle.js_doc.proofs.QuotedRuns.{run, run_first, run_gone, escape_next, none_left}
use Rattle.js_doc.proofs.quoting.put_escaped.Goals as goal

pub returns-in_err-put : goal.returns-in_err-put
returns-in_err-put g c =
    let bs = c.args.bytes.now in
    let run_left = same_left _ _ _ _ _ c.loop-out.invariant.1
    (run_first bs c.loop-out.start c.run_end-end.result c.run_end-end.ensures.value) in
    puts_err _ _ _ (run bs c.loop-out.start c.run_end-end.result) _ _ _ c.from_residual.ensures.0
    run_left c.in_err-put.ensures

pub returns-then-end-bytes : goal.returns-then-end-bytes
returns-then-end-bytes g c =
    let bs = c.args.bytes.now in
    let end = c.run_end-end.result in
    let rest = run_gone _ _ _ bs c.loop-out.start end _ c.loop-out.invariant.1
    c.run_end-end.ensures.value c.in_ok-put.ensures in
    all_gone _ _ _ (same_left _ _ _ _ _ rest (none_left bs end (search rules)))

pub returns-in_err-put_escape : goal.returns-in_err-put_escape
returns-in_err-put_escape g c =
    let bs = c.args.bytes.now in let end = c.run_end-end.result in
    let rest = run_gone _ _ _ bs c.loop-out.start end _ c.loop-out.invariant.1
    c.run_end-end.ensures.value c.in_ok-put.ensures in
    puts_err _ _ _ (escape_byte (get_or bs end 0)) _ _ _ c.from_residual-in_err-put_escape.ensures.0
    (same_left _ _ _ _ _ rest (escape_next bs end (search rules))) c.in_err-put_escape.ensures

pub loop-out-preserved : goal.loop-out-preserved
loop-out-preserved g c =
    let bs = c.args.bytes.now in let end = c.run_end-end.result in
    let rest = run_gone _ _ _ bs c.loop-out.start end _ c.loop-out.invariant.1
    c.run_end-end.ensures.value c.in_ok-put.ensures in
    let escape_left = same_left _ _ _ _ _ rest (escape_next bs end (search rules)) in
    (search rules, goes_on _ _ _ (escape_byte (get_or bs end 0)) _ _ escape_left c.in_ok-put_escape.ensures)
