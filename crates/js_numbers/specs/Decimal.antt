-- What the text of a JSON number is (RFC 8259, section 6): digits * 10 ^ up / 10 ^ down, or that less than 0.
use Rattle.std.specs.Prelude.{ℕ, zero, suc, ℤ, pos, negsuc, neg_ℤ, ◌-◌, ◌*◌, ◌/◌, ◌%◌, ◌^◌, ◌<◌, Bool, ◌&&◌, ◌==◌}
use Rattle.std.specs.Prelude.{nat_lt, if◌then◌else◌, List, drop, slice_index, Option, Some, None, ⊤}
use Rattle.fast_float.specs.Text.{Parts, scan, digits_of, tens_up, tens_down, minus}
use Rattle.js_numbers.specs.declared.bound.Bound.{Bound}
use Rattle.js_numbers.specs.declared.bound.Bound.TheVariants.{Below, Whole, Above}
use Rattle.js_numbers.specs.declared.decimal.Decimal.{Decimal}

-- ---- the number that a text is

abbrev pub is_negative : List ℕ → Bool
is_negative text = slice_index text 0 == minus

-- the parts behind the sign
abbrev pub parts : List ℕ → Parts
parts text = scan (if is_negative text then drop 1 text else text)

-- `-12.5e3` is negative, with the digits 125, 3 up and 1 down
abbrev pub decimal : List ℕ → Decimal
decimal text = record {
  is_negative = is_negative text;
  digits = digits_of (parts text);
  up = tens_up (parts text);
  down = tens_down (parts text);
}

-- It has at most 37 digits after leading zeros. Longer numbers aren't computed with.
abbrev pub is_short : Decimal → Bool
is_short d = nat_lt d.digits (10 ^ 37) && (nat_lt d.up (2 ^ 64) && nat_lt d.down (2 ^ 64))

-- ---- the integers next to it

-- the size as a fraction, in which powers of ten are cancelled
abbrev pub above : Decimal → ℕ
above d = d.digits * 10 ^ (d.up - d.down)

abbrev pub denominator : Decimal → ℕ
denominator d = 10 ^ (d.down - d.up)

abbrev pub is_whole : Decimal → Bool
is_whole d = above d % denominator d == 0

abbrev pub size_down : Decimal → ℕ
size_down d = above d / denominator d

abbrev pub size_up : Decimal → ℕ
size_up d = if is_whole d then size_down d else suc (size_down d)

-- the greatest integer that isn't above it
abbrev pub floor : Decimal → ℤ
floor d = if d.is_negative then neg_ℤ (pos (size_up d)) else pos (size_down d)

-- the least integer that isn't below it
abbrev pub ceiling : Decimal → ℤ
ceiling d = if d.is_negative then neg_ℤ (pos (size_down d)) else pos (size_up d)

-- ---- the range

-- from -2^63 to 2^64 - 1
abbrev pub IsInRange : ℤ → Type 0
IsInRange (pos n) = n < 2 ^ 64
IsInRange (negsuc n) = n < 2 ^ 63

abbrev pub bound : ℤ → Bound
bound (pos n) = if nat_lt n (2 ^ 64) then Whole (pos n) else Above
bound (negsuc n) = if nat_lt n (2 ^ 63) then Whole (negsuc n) else Below

abbrev pub IsBoundInRange : Bound → Type 0
IsBoundInRange Below = ⊤
IsBoundInRange (Whole z) = IsInRange z
IsBoundInRange Above = ⊤

abbrev pub in_range : Bound → Option ℤ
in_range Below = None
in_range (Whole z) = Some z
in_range Above = None

-- the integer from -2^63 to 2^64 - 1 that it is
abbrev pub integer_value : Decimal → Option ℤ
integer_value d = if is_whole d then in_range (bound (floor d)) else None

-- ---- its multiples

-- the greatest common divisor, by Euclid's algorithm in at most so many steps
abbrev pub gcd_within : ℕ → ℕ → ℕ → ℕ
gcd_within zero a b = a
gcd_within (suc n) a zero = a
gcd_within (suc n) a (suc b) = gcd_within n (suc b) (a % suc b)

abbrev pub gcd : ℕ → ℕ → ℕ
gcd a b = gcd_within b a b

-- of the fraction in lowest terms
abbrev pub numerator : Decimal → ℕ
numerator d = above d / gcd (above d) (denominator d)

-- A number of more than 38 places behind the point is left alone.
abbrev pub short_numerator : Decimal → Option Bound
short_numerator d = if nat_lt 38 (d.down - d.up) then None else Some (bound (pos (numerator d)))
