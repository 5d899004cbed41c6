-- The set of the bytes that a fragment escapes is the one that the definition names.
use Rattle.std.proofs.Common.{◌≡◌, ℕ, ◌≤◌, Bool, true, false, not, ◌==◌, ltb, List, [], ◌∷◌, ◌++◌}
use Rattle.std.proofs.Common.{flat_map, if◌then◌else◌, refl, sym, ap, ◌∙◌, arith}
use Rattle.std.specs.Char.{is_ascii_alphanumeric}
use Rattle.std.specs.List.{list_any, list_all}
use Rattle.std.proofs.lemmas.Bool.{agree_below, agree_below_at, cond_both, and_parts}
use Rattle.std.proofs.lemmas.Bool.Decides.{nat_tests}
use Rattle.percent_encoding.specs.AsciiSet.{contains, should_percent_encode}
use Rattle.percent_encoding.specs.Percent.{percent_encode, encode_byte, percent_encode_byte}
use Rattle.js_doc.specs.declared.fragment.TheConstants.{ESCAPED}
use Rattle.js_doc.specs.Fragment.{marks, is_fragment_char, fragment_byte}

below : agree_below (should_percent_encode ESCAPED) (λ b. not (is_fragment_char b)) 128 ≡ true
unfolding should_percent_encode
below = refl

any_high : (ks : List ℕ) (b : ℕ) → list_all (λ k. ltb k 128) ks ≡ true → 128 ≤ b → list_any (λ k. b == k) ks ≡ false
any_high [] b small high = refl
any_high (k ∷ ks) b small high =
    let p = and_parts (ltb k 128) (list_all (λ k. ltb k 128) ks) small in
    let rest : list_any (λ k. b == k) ks ≡ false = any_high ks b p.1 high in
    let first : b == k ≡ false = grind (arith, nat_tests) in
    rw (first, rest)

pub alphanumeric_high : (b : ℕ) → 128 ≤ b → is_ascii_alphanumeric b ≡ false
alphanumeric_high b high = grind (arith, nat_tests)

no_char_high : (b : ℕ) → 128 ≤ b → is_fragment_char b ≡ false
no_char_high b high =
    let marked = any_high marks b refl high in
    let letter = alphanumeric_high b high in
    rw letter marked

escaped_high : (b : ℕ) → 128 ≤ b → should_percent_encode ESCAPED b ≡ true
unfolding should_percent_encode
escaped_high b high = grind (arith, nat_tests)

agree : (b : ℕ) → should_percent_encode ESCAPED b ≡ not (is_fragment_char b)
agree b = cond_both (ltb b 128) true false (λ x. should_percent_encode ESCAPED b ≡ not (is_fragment_char b))
    (λ e. agree_below_at (should_percent_encode ESCAPED) (λ b. not (is_fragment_char b)) 128 b below
    (grind (arith, nat_tests)))
    (λ e. let high : 128 ≤ b = grind (arith, nat_tests) in escaped_high b high ∙ ap not (sym (no_char_high b high)))

turned : (s : Bool) (xs ys : List ℕ) → (if not s then xs else ys) ≡ (if s then ys else xs)
turned true xs ys = refl
turned false xs ys = refl

same_byte : (b : ℕ) → encode_byte ESCAPED b ≡ fragment_byte b
same_byte b = ap (λ t. if t then percent_encode_byte b else b ∷ []) (agree b)
    ∙ turned (is_fragment_char b) (percent_encode_byte b) (b ∷ [])

pub fragment_is : (bs : List ℕ) → percent_encode ESCAPED bs ≡ flat_map fragment_byte bs
unfolding percent_encode
fragment_is [] = refl
fragment_is (b ∷ bs) = ap (λ x. x ++ flat_map (encode_byte ESCAPED) bs) (same_byte b)
    ∙ ap (λ x. fragment_byte b ++ x) (fragment_is bs)

pub has_percent : contains ESCAPED 37 ≡ true
has_percent = refl
