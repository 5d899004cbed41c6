-- The text of an integer in digits is that integer.
use Rattle.std.proofs.Common.{◌≡◌, ℕ, ℤ, pos, negsuc, suc, Bool, true, false, List, [], ◌∷◌, length}
use Rattle.std.proofs.Common.{Some, None}
use Rattle.std.proofs.Common.{arith, refl, sym, ap, ◌∙◌, subst, append-nil}
use Rattle.std.specs.Prelude.{drop, if◌then◌else◌}
use Rattle.std.specs.Fmt.{decimal as in_digits}
use Rattle.std.specs.Str.Parse.{AllDigits, IsNumeral, digits_value}
use Rattle.std.proofs.lemmas.Bool.Decides.{nat_tests}
use Rattle.std.proofs.lemmas.Fmt.{decimal_is_IsNumeral}
use Rattle.std.proofs.lemmas.Str.Parse.{digit_from_value}
use Rattle.fast_float.specs.Text.{IsWellFormed, Parts, digits_of, scan, tens_down, tens_up}
use Rattle.fast_float.proofs.Writing.{scan-text_of}
use Rattle.js_numbers.specs.Decimal.{decimal, is_negative, is_short, parts, integer_value}
use Rattle.js_numbers.specs.Laws.{DigitsAreTheInteger}
use Rattle.js_numbers.specs.declared.decimal.Decimal.{Decimal}
use Rattle.js_numbers.proofs.Equals.{whole_is_equal}

-- the parts of digits alone
abbrev plain : List ℕ → Parts
plain ds = record {
  whole = ds;
  point = false;
  fraction = [];
  exponent_negative = false;
  exponent = [];
  len = length ds;
}

is_plain : (ds : List ℕ) → AllDigits 10 ds → IsWellFormed (plain ds)
is_plain ds h = record {
  whole_digits = h;
  fraction_digits = tt;
  exponent_digits = tt;
  no_point = λ e. refl;
  no_exponent = λ e. refl;
  len_is = sym (ap length (append-nil ds));
}

scan_plain : (ds : List ℕ) → AllDigits 10 ds → scan ds ≡ plain ds
scan_plain ds h = ap scan (sym (append-nil ds)) ∙ scan-text_of (plain ds) (is_plain ds h)

-- digits don't begin with a minus
unsigned : (ds : List ℕ) → IsNumeral 10 ds → is_negative ds ≡ false
unsigned [] h = absurd (omega (arith, h.0))
unsigned (d ∷ ds) h = let range = digit_from_value d h.1.0 in grind (arith, nat_tests)

abbrev integer : Bool → ℕ → Decimal
integer negative n = record { is_negative = negative; digits = n; up = 0; down = 0 }

abbrev made : Bool → Parts → Decimal
made negative p = record { is_negative = negative; digits = digits_of p; up = tens_up p; down = tens_down p }

made_plain : (negative : Bool) (ds : List ℕ) (n : ℕ) → digits_value 10 ds ≡ n
    → made negative (plain ds) ≡ integer negative n
made_plain negative ds n e = ap (integer negative) (ap (digits_value 10) (append-nil ds) ∙ e)

decimal_plain : (ds : List ℕ) (n : ℕ) → IsNumeral 10 ds → digits_value 10 ds ≡ n → decimal ds ≡ integer false n
decimal_plain ds n h e =
    let sign = unsigned ds h in
    ap (λ b. made b (parts ds)) sign ∙ ap (λ b. made false (scan (if b then drop 1 ds else ds))) sign
    ∙ ap (made false) (scan_plain ds h.1) ∙ made_plain false ds n e

decimal_below : (ds : List ℕ) (n : ℕ) → IsNumeral 10 ds → digits_value 10 ds ≡ n → decimal (45 ∷ ds) ≡ integer true n
decimal_below ds n h e = ap (made true) (scan_plain ds h.1) ∙ made_plain true ds n e

whole_if_short : (d : Decimal) (z : ℤ) → is_short d ≡ true → integer_value d ≡ Some z
    → (if is_short d then integer_value d else None) ≡ Some z
whole_if_short d z short found = rw short found

pub digits_are_the_integer : DigitsAreTheInteger
digits_are_the_integer (pos n) r =
    let numeral = decimal_is_IsNumeral n r in
    let d = integer false n in
    let short : is_short d ≡ true = grind (arith, nat_tests) in
    subst (λ (k : Decimal). (if is_short k then integer_value k else None) ≡ Some (pos n))
    (sym (decimal_plain (in_digits n) n numeral.0 numeral.1))
    (whole_if_short d (pos n) short ((whole_is_equal d (pos n)).0 (r, refl)))
digits_are_the_integer (negsuc n) r =
    let numeral = decimal_is_IsNumeral (suc n) (omega arith) in
    let d = integer true (suc n) in
    let short : is_short d ≡ true = grind (arith, nat_tests) in
    subst (λ (k : Decimal). (if is_short k then integer_value k else None) ≡ Some (negsuc n))
    (sym (decimal_below (in_digits (suc n)) (suc n) numeral.0 numeral.1))
    (whole_if_short d (negsuc n) short ((whole_is_equal d (negsuc n)).0 (r, refl)))
