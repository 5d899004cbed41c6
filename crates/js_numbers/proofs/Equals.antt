-- A number equals the integer that `whole` gives, and no other in the range.
use Rattle.std.proofs.Common.{◌≡◌, ℤ, Bool, true, false, Option, Some, None, arith}
use Rattle.std.specs.Prelude.{◌&&◌, is_none, if◌then◌else◌}
use Rattle.std.proofs.lemmas.Int.{ints}
use Rattle.js_numbers.specs.Decimal.{is_short, is_whole, size_down, integer_value}
use Rattle.js_numbers.specs.Laws.{OutsideIsNoInteger, WholeIsEqual}
use Rattle.js_numbers.specs.declared.decimal.Decimal.{Decimal}
use Rattle.js_numbers.proofs.Comparing.{maximum_limit, minimum_limit}
use Rattle.js_numbers.proofs.Sizes.{is_between}
use Rattle.js_numbers.proofs.Wholes.{whole_from, whole_gives}

pub whole_is_equal : WholeIsEqual
whole_is_equal d z =
    let least = minimum_limit _ _ _ _ (is_between d) d.is_negative z in
    let greatest = maximum_limit _ _ _ _ (is_between d) d.is_negative z in
    let exact = is_whole d in
    let size = size_down d in (
      λ h.
          let e = h.1 in
          let most = least.0 (omega (arith, ints, e)) in
          whole_from exact d.is_negative size z h.0 most (greatest.0 (omega (arith, ints, e))),
      λ h.
          let found = whole_gives exact d.is_negative size z h in
          let low = least.1 found.1 in
          let high = greatest.1 found.2 in
          (found.0, omega (arith, ints, low, high)),
    )

none_outside : (short : Bool) (o : Option ℤ) (d e : Decimal) (z : ℤ) → o ≡ Some z
    → (if short && is_none o then Some d else None) ≡ Some e → ⊥
none_outside true None d e z h found = cc
none_outside true (Some x) d e z h found = cc
none_outside false o d e z h found = cc

pub outside_is_no_integer : OutsideIsNoInteger
outside_is_no_integer d e z found r same =
    none_outside (is_short d) (integer_value d) d e z ((whole_is_equal d z).0 (r, same)) found
