use Rattle.std.proofs.Common.{ℕ, ◌+◌, ◌≤◌, List, length, Option, Some, None, Err, ap, arith, length-drop}
use Rattle.std.proofs.lemmas.Result.{err_from_is_err_and}
use Rattle.js_output.specs.Device.{input_limit}
use Rattle.js_output.specs.Outcome.{PairOutcome, OutcomeOfTexts, first_line_feed}
use Rattle.js_output.specs.Outcome.{text_before, text_after, output_report}
use Rattle.js_output.proofs.Answering.{reports-map, answers-input, answers-reported, left_all, input-over, input-within}
use Rattle.js_output.proofs.pair_of_texts.run_pair.Goals as goal

pub returns-in_err-bytes-clause-answer : goal.returns-in_err-bytes-clause-answer
returns-in_err-bytes-clause-answer g c =
    let p = err_from_is_err_and c.from_residual.result c.from_residual.ensures.1 in
    let left = g.R.Read.remaining c.args.input.now.device in
    let new = g.R.Read.remaining c.read_all.new.source.device in
    rw (p.1, p.2) (answers-input output_report PairOutcome g.W.Write.contents c.args.out.now c.args.out.now left new
    c.in_err-bytes.field-0.0
    (λ bytes. input-over bytes (OutcomeOfTexts (text_before (first_line_feed bytes) bytes) (text_after (first_line_feed
    bytes) bytes))) c.in_err-bytes.ensures.faults (λ e. c.in_err-bytes.ensures.too_large (ap Err e)))

pub returns-clause-answer : goal.returns-clause-answer
returns-clause-answer g c =
    let left = g.R.Read.remaining c.args.input.now.device in
    let bytes = c.in_ok-bytes.bytes.items in
    let of = OutcomeOfTexts (text_before (first_line_feed bytes) bytes) (text_after (first_line_feed bytes) bytes) in
    let is = left_all left _ bytes c.in_ok-bytes.ensures.ok c.in_ok-bytes.ensures.end in
    let taken = g.W.Write.contents in
    let reported = rw (c.texts_of.ensures.before, c.texts_of.ensures.after, c.as_slice.ensures.value) at
    c.run_texts.ensures.answer in
    answers-reported output_report PairOutcome taken c.args.out.now c.run_texts.new.out left bytes c.run_texts.result is
    (reports-map output_report taken c.args.out.now c.run_texts.new.out of (PairOutcome bytes) c.run_texts.result
    (input-within bytes of c.in_ok-bytes.ensures.fits) reported)

-- a part of the input is no longer than the whole
after_fits : (at : Option ℕ) (bytes : List ℕ) → length bytes ≤ input_limit → length (text_after at bytes) ≤ input_limit
after_fits None bytes few = omega arith
after_fits (Some at) bytes few = omega (arith, few, length-drop (at + 1) bytes)

pub run_texts-requires : goal.run_texts-requires
run_texts-requires g c = rw (c.texts_of.ensures.after, c.as_slice.ensures.value)
    (after_fits (first_line_feed c.in_ok-bytes.bytes.items) c.in_ok-bytes.bytes.items c.in_ok-bytes.ensures.fits)
