-- Which bound by an integer says the same of every integer in the range as one by a number.
use Rattle.std.specs.Prelude.{ℤ, pos, negsuc, ◌-◌, ◌^◌, ◌≤ℤ◌, ◌<ℤ◌, ⊤}
use Rattle.js_numbers.specs.Decimal.{IsInRange, bound, ceiling, floor}
use Rattle.js_numbers.specs.declared.bound.Bound.{Bound}
use Rattle.js_numbers.specs.declared.bound.Bound.TheVariants.{Below, Whole, Above}
use Rattle.js_numbers.specs.declared.decimal.Decimal.{Decimal}
use Rattle.js_numbers.specs.declared.limit.Limit.{Limit}
use Rattle.js_numbers.specs.declared.limit.Limit.TheVariants.{Unlimited, Minimum, Maximum}
use Rattle.js_numbers.specs.declared.limit.Limit.TheVariants.{ExclusiveMinimum, ExclusiveMaximum}

-- what a limit says of an integer
abbrev pub Meets : Limit → ℤ → Type 0
Meets Unlimited z = ⊤
Meets (Minimum n) z = n ≤ℤ z
Meets (Maximum n) z = z ≤ℤ n
Meets (ExclusiveMinimum n) z = n <ℤ z
Meets (ExclusiveMaximum n) z = z <ℤ n

abbrev pub IsLimitInRange : Limit → Type 0
IsLimitInRange Unlimited = ⊤
IsLimitInRange (Minimum n) = IsInRange n
IsLimitInRange (Maximum n) = IsInRange n
IsLimitInRange (ExclusiveMinimum n) = IsInRange n
IsLimitInRange (ExclusiveMaximum n) = IsInRange n

abbrev pub least : ℤ
least = negsuc (2 ^ 63 - 1)

abbrev pub greatest : ℤ
greatest = pos (2 ^ 64 - 1)

-- ---- by the integers next to the number

abbrev pub from_below : Bound → Limit
from_below Below = Minimum least
from_below (Whole z) = Minimum z
from_below Above = ExclusiveMinimum greatest

abbrev pub from_above : Bound → Limit
from_above Below = ExclusiveMaximum least
from_above (Whole z) = Maximum z
from_above Above = Maximum greatest

abbrev pub beyond_below : Bound → Limit
beyond_below Below = Unlimited
beyond_below (Whole z) = ExclusiveMinimum z
beyond_below Above = ExclusiveMinimum greatest

abbrev pub beyond_above : Bound → Limit
beyond_above Below = ExclusiveMaximum least
beyond_above (Whole z) = ExclusiveMaximum z
beyond_above Above = Unlimited

-- ---- by the number

abbrev pub minimum_limit : Decimal → Limit
minimum_limit d = from_below (bound (ceiling d))

abbrev pub maximum_limit : Decimal → Limit
maximum_limit d = from_above (bound (floor d))

abbrev pub exclusive_minimum_limit : Decimal → Limit
exclusive_minimum_limit d = beyond_below (bound (floor d))

abbrev pub exclusive_maximum_limit : Decimal → Limit
exclusive_maximum_limit d = beyond_above (bound (ceiling d))
