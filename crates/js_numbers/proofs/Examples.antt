-- What some numbers are, and what becomes of some texts.
use Rattle.std.proofs.Common.{◌≡◌, pos, negsuc, ◌-◌, ◌^◌, Some, None, refl}
use Rattle.std.specs.Prelude.{codes}
use Rattle.core.specs.Fmt.{digits}
use Rattle.fast_float.proofs.OnLiterals.{fast_float_on_literals}
use Rattle.js_numbers.specs.Decimal.{bound, ceiling, decimal, floor, short_numerator}
use Rattle.js_numbers.specs.Instance.{exact_instance, exact_number, integer_written}
use Rattle.js_numbers.specs.declared.bound.Bound.TheVariants.{Below, Whole, Above}
use Rattle.json.proofs.OnLiterals.{json_on_literals}

-- ---- numbers

with_a_point : exact_number (codes "1.0") ≡ codes "1"
unfolding fast_float_on_literals digits
with_a_point = refl

minus_zero : exact_number (codes "-0") ≡ codes "0"
unfolding fast_float_on_literals digits
minus_zero = refl

hundred : exact_number (codes "1e2") ≡ codes "100"
unfolding fast_float_on_literals digits
hundred = refl

below_zero : exact_number (codes "-10.0E+1") ≡ codes "-100"
unfolding fast_float_on_literals digits
below_zero = refl

a_half_stays : exact_number (codes "0.5") ≡ codes "0.5"
unfolding fast_float_on_literals digits
a_half_stays = refl

greatest : integer_written (codes "18446744073709551615.0") ≡ Some (pos (2 ^ 64 - 1))
unfolding fast_float_on_literals
greatest = refl

too_large : integer_written (codes "18446744073709551616") ≡ None
unfolding fast_float_on_literals
too_large = refl

least : integer_written (codes "-9223372036854775808e0") ≡ Some (negsuc (2 ^ 63 - 1))
unfolding fast_float_on_literals
least = refl

-- ---- the integers next to them

floor_of_half : bound (floor (decimal (codes "0.5"))) ≡ Whole (pos 0)
unfolding fast_float_on_literals
floor_of_half = refl

ceiling_of_half : bound (ceiling (decimal (codes "0.5"))) ≡ Whole (pos 1)
unfolding fast_float_on_literals
ceiling_of_half = refl

floor_below_zero : bound (floor (decimal (codes "-12.5e-1"))) ≡ Whole (negsuc 1)
unfolding fast_float_on_literals
floor_below_zero = refl

ceiling_below_zero : bound (ceiling (decimal (codes "-12.5e-1"))) ≡ Whole (negsuc 0)
unfolding fast_float_on_literals
ceiling_below_zero = refl

far_below : bound (ceiling (decimal (codes "-1e300"))) ≡ Below
unfolding fast_float_on_literals
far_below = refl

far_above : bound (floor (decimal (codes "1e300"))) ≡ Above
unfolding fast_float_on_literals
far_above = refl

-- ---- multiples: 0.01 is 1 / 100, and 2.5 is 5 / 2

hundredth : short_numerator (decimal (codes "0.01")) ≡ Some (Whole (pos 1))
unfolding fast_float_on_literals
hundredth = refl

two_and_a_half : short_numerator (decimal (codes "2.50")) ≡ Some (Whole (pos 5))
unfolding fast_float_on_literals
two_and_a_half = refl

-- ---- texts

in_a_text : exact_instance (codes "{ \"1.0\": [-0.0, 2e1, 0.5] }") ≡ Some (codes "{\"1.0\":[0,20,0.5]}")
unfolding fast_float_on_literals json_on_literals digits
in_a_text = refl

no_text : exact_instance (codes "[1.]") ≡ None
unfolding fast_float_on_literals json_on_literals digits
no_text = refl
