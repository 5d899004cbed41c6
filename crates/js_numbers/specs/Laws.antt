-- Laws of numbers. An integer z is compared with a number d, which is digits * 10 ^ up / 10 ^ down, without division:
-- z * 10 ^ down with digits * 10 ^ up.
use Rattle.std.specs.Prelude.{◌≡◌, ℕ, ℤ, pos, negsuc, ◌*◌, ◌*ℤ◌, ◌^◌, ◌<◌, ◌≤ℤ◌, ◌<ℤ◌, ◌↔◌, Some}
use Rattle.std.specs.Fmt.{signed_decimal}
use Rattle.core.specs.Int.{◌∣◌}
use Rattle.fast_float.specs.Text.{with_sign}
use Rattle.js_numbers.specs.Change.{outside}
use Rattle.js_numbers.specs.Decimal.{IsInRange, bound, numerator, integer_value}
use Rattle.js_numbers.specs.Instance.{integer_written}
use Rattle.js_numbers.specs.Limit.{Meets, exclusive_maximum_limit, exclusive_minimum_limit, maximum_limit}
use Rattle.js_numbers.specs.Limit.{minimum_limit}
use Rattle.js_numbers.specs.declared.bound.Bound.{Bound}
use Rattle.js_numbers.specs.declared.bound.Bound.TheVariants.{Below, Whole, Above}
use Rattle.js_numbers.specs.declared.decimal.Decimal.{Decimal}

-- ---- the number and an integer, both times 10 ^ down

abbrev pub scaled_number : Decimal → ℤ
scaled_number d = with_sign d.is_negative (d.digits * 10 ^ d.up)

abbrev pub scaled : Decimal → ℤ → ℤ
scaled d z = z *ℤ pos (10 ^ d.down)

-- ---- bounds, of each integer in the range

-- d ≤ z
abbrev pub MinimumSaysTheSame : Type 0
MinimumSaysTheSame = (d : Decimal) (z : ℤ) → IsInRange z → (scaled_number d ≤ℤ scaled d z) ↔ Meets (minimum_limit d) z

-- z ≤ d
abbrev pub MaximumSaysTheSame : Type 0
MaximumSaysTheSame = (d : Decimal) (z : ℤ) → IsInRange z → (scaled d z ≤ℤ scaled_number d) ↔ Meets (maximum_limit d) z

-- d < z
abbrev pub ExclusiveMinimumSaysTheSame : Type 0
ExclusiveMinimumSaysTheSame = (d : Decimal) (z : ℤ) → IsInRange z
    → (scaled_number d <ℤ scaled d z) ↔ Meets (exclusive_minimum_limit d) z

-- z < d
abbrev pub ExclusiveMaximumSaysTheSame : Type 0
ExclusiveMaximumSaysTheSame = (d : Decimal) (z : ℤ) → IsInRange z
    → (scaled d z <ℤ scaled_number d) ↔ Meets (exclusive_maximum_limit d) z

-- d is the integer that `integer_value` gives, if it is one in the range
abbrev pub WholeIsEqual : Type 0
WholeIsEqual = (d : Decimal) (z : ℤ) → (IsInRange z × (scaled_number d ≡ scaled d z)) ↔ (integer_value d ≡ Some z)

-- what `outside` finds is no integer in the range, so no number of an instance is equal to it
abbrev pub OutsideIsNoInteger : Type 0
OutsideIsNoInteger = (d found : Decimal) (z : ℤ) → outside d ≡ Some found → IsInRange z
    → scaled_number d ≡ scaled d z → ⊥

-- an integer in the range that is written in digits alone is read as that integer, so it stays
abbrev pub DigitsAreTheInteger : Type 0
DigitsAreTheInteger = (z : ℤ) → IsInRange z → integer_written (signed_decimal z) ≡ Some z

-- ---- multiples, of sizes

abbrev pub IsMultiple : Decimal → ℕ → Type 0
IsMultiple d n = (times : ℕ) × (n * 10 ^ d.down ≡ times * (d.digits * 10 ^ d.up))

abbrev pub IsMultipleOf : Bound → ℕ → Type 0
IsMultipleOf Below n = ⊥
IsMultipleOf (Whole (pos m)) n = m ∣ n
IsMultipleOf (Whole (negsuc m)) n = ⊥
IsMultipleOf Above n = n ≡ 0

-- n is a multiple of d exactly if it is one of the numerator
abbrev pub MultiplesAreOfNumerator : Type 0
MultiplesAreOfNumerator = (d : Decimal) (n : ℕ) → n < 2 ^ 64
    → IsMultiple d n ↔ IsMultipleOf (bound (pos (numerator d))) n
