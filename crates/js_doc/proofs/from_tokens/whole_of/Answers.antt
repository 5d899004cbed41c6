use Rattle.std.proofs.Common.{◌≡◌, ◌==◌, true, false, Ok, get_or, drop, take_all}
use Rattle.std.proofs.Common.{length-drop, sym, ap, ◌∙◌, arith, rules}
use Rattle.fast_float.specs.Text.{scan}
use Rattle.serde_json.specs.Data.{unsigned, negative}
use Rattle.serde_json.specs.Read.{number_of, number_from}
use Rattle.js_doc.specs.Value.{whole}
use Rattle.js_doc.proofs.from_tokens.whole_of.Goals as goal

pub returns-in_ok-number : goal.returns-in_ok-number
unfolding number_of
returns-in_ok-number c =
    let s = c.as_bytes-bytes.result.now in
    let signed : (get_or s 0 0 == 45) ≡ true = sym c.if-has_minus.ensures.value in
    let parts : c.scan.result ≡ scan (drop 1 s) = c.scan.ensures.parts
    ∙ ap scan (take_all _ (drop 1 s) (omega (arith, length-drop 1 s))) in
    let read : number_from true (scan (drop 1 s)) ≡ number_of s = rw signed in
    let is = ap (number_from true) parts ∙ read ∙ ap number_of c.as_bytes-bytes.ensures.value in
    let same : c.in_ok-number.number ≡ c.from_i64.result = search rules in
    (negative c.in_ok-number.number, sym is ∙ c.in_ok-number.ensures, ap (λ z. Ok (whole z)) same)

pub returns-in_ok-number-2 : goal.returns-in_ok-number-2
unfolding number_of
returns-in_ok-number-2 c =
    let s = c.as_bytes-bytes.result.now in
    let unsigned_is : (get_or s 0 0 == 45) ≡ false = sym c.if-has_minus.ensures.value in
    let read : number_from false (scan s) ≡ number_of s = rw unsigned_is in
    let is = ap (number_from false) c.scan-else-has_minus.ensures.parts ∙ read
    ∙ ap number_of c.as_bytes-bytes.ensures.value in
    let same = ap (λ z. Ok (whole z)) (sym c.from_u64.ensures) in
    (unsigned c.in_ok-number-2.number, sym is ∙ c.in_ok-number-2.ensures, same)
