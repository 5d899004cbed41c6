-- A bound that is out of range says the same of all integers in it.
use Rattle.std.proofs.Common.{◌≡◌, ℕ, ℤ, pos, negsuc, ◌^◌, ◌↔◌, Bool, true, false, arith, refl}
use Rattle.std.specs.Prelude.{◌≤ℤ◌, ◌<ℤ◌, if◌then◌else◌, nat_lt}
use Rattle.std.proofs.lemmas.Bool.Decides.{nat_tests}
use Rattle.std.proofs.lemmas.Int.{ints}
use Rattle.js_numbers.specs.Decimal.{IsInRange, bound}
use Rattle.js_numbers.specs.Limit.{Meets, beyond_above, beyond_below, from_above, from_below, greatest, least}
use Rattle.js_numbers.specs.declared.bound.Bound.TheVariants.{Below, Whole, Above}

-- no integer in the range is as large, or as small
large : (n : ℕ) (z : ℤ) → nat_lt n (2 ^ 64) ≡ false → IsInRange z → z <ℤ pos n
large n (pos m) e r = grind (arith, ints, nat_tests)
large n (negsuc m) e r = omega (arith, ints)

small : (n : ℕ) (z : ℤ) → nat_lt n (2 ^ 63) ≡ false → IsInRange z → negsuc n <ℤ z
small n (pos m) e r = omega (arith, ints)
small n (negsuc m) e r = grind (arith, ints, nat_tests)

at_least : (z : ℤ) → IsInRange z → least ≤ℤ z
at_least (pos m) r = omega (arith, ints)
at_least (negsuc m) r = omega (arith, ints)

at_most : (z : ℤ) → IsInRange z → z ≤ℤ greatest
at_most (pos m) r = omega (arith, ints)
at_most (negsuc m) r = omega (arith, ints)

large_minimum : (n : ℕ) (z : ℤ) (t : Bool) → nat_lt n (2 ^ 64) ≡ t → IsInRange z
    → (pos n ≤ℤ z) ↔ Meets (from_below (if t then Whole (pos n) else Above)) z
large_minimum n z true e r = (λ p. p, λ p. p)
large_minimum n z false e r =
    let l = large n z e r in
    let most = at_most z r in
    (λ p. omega (arith, ints), λ p. omega (arith, ints))

small_minimum : (n : ℕ) (z : ℤ) (t : Bool) → nat_lt n (2 ^ 63) ≡ t → IsInRange z
    → (negsuc n ≤ℤ z) ↔ Meets (from_below (if t then Whole (negsuc n) else Below)) z
small_minimum n z true e r = (λ p. p, λ p. p)
small_minimum n z false e r = let l = small n z e r in (λ p. at_least z r, λ p. omega (arith, ints))

pub minimum_limit : (c z : ℤ) → IsInRange z → (c ≤ℤ z) ↔ Meets (from_below (bound c)) z
minimum_limit (pos n) z r = large_minimum n z (nat_lt n (2 ^ 64)) refl r
minimum_limit (negsuc n) z r = small_minimum n z (nat_lt n (2 ^ 63)) refl r

large_maximum : (n : ℕ) (z : ℤ) (t : Bool) → nat_lt n (2 ^ 64) ≡ t → IsInRange z
    → (z ≤ℤ pos n) ↔ Meets (from_above (if t then Whole (pos n) else Above)) z
large_maximum n z true e r = (λ p. p, λ p. p)
large_maximum n z false e r = let l = large n z e r in (λ p. at_most z r, λ p. omega (arith, ints))

small_maximum : (n : ℕ) (z : ℤ) (t : Bool) → nat_lt n (2 ^ 63) ≡ t → IsInRange z
    → (z ≤ℤ negsuc n) ↔ Meets (from_above (if t then Whole (negsuc n) else Below)) z
small_maximum n z true e r = (λ p. p, λ p. p)
small_maximum n z false e r =
    let l = small n z e r in
    let most = at_least z r in
    (λ p. omega (arith, ints), λ p. omega (arith, ints))

pub maximum_limit : (c z : ℤ) → IsInRange z → (z ≤ℤ c) ↔ Meets (from_above (bound c)) z
maximum_limit (pos n) z r = large_maximum n z (nat_lt n (2 ^ 64)) refl r
maximum_limit (negsuc n) z r = small_maximum n z (nat_lt n (2 ^ 63)) refl r

large_exclusive_minimum : (n : ℕ) (z : ℤ) (t : Bool) → nat_lt n (2 ^ 64) ≡ t → IsInRange z
    → (pos n <ℤ z) ↔ Meets (beyond_below (if t then Whole (pos n) else Above)) z
large_exclusive_minimum n z true e r = (λ p. p, λ p. p)
large_exclusive_minimum n z false e r =
    let l = large n z e r in
    let most = at_most z r in
    (λ p. omega (arith, ints), λ p. omega (arith, ints))

small_exclusive_minimum : (n : ℕ) (z : ℤ) (t : Bool) → nat_lt n (2 ^ 63) ≡ t → IsInRange z
    → (negsuc n <ℤ z) ↔ Meets (beyond_below (if t then Whole (negsuc n) else Below)) z
small_exclusive_minimum n z true e r = (λ p. p, λ p. p)
small_exclusive_minimum n z false e r = (λ p. tt, λ p. small n z e r)

pub exclusive_minimum_limit : (c z : ℤ) → IsInRange z → (c <ℤ z) ↔ Meets (beyond_below (bound c)) z
exclusive_minimum_limit (pos n) z r = large_exclusive_minimum n z (nat_lt n (2 ^ 64)) refl r
exclusive_minimum_limit (negsuc n) z r = small_exclusive_minimum n z (nat_lt n (2 ^ 63)) refl r

large_exclusive_maximum : (n : ℕ) (z : ℤ) (t : Bool) → nat_lt n (2 ^ 64) ≡ t → IsInRange z
    → (z <ℤ pos n) ↔ Meets (beyond_above (if t then Whole (pos n) else Above)) z
large_exclusive_maximum n z true e r = (λ p. p, λ p. p)
large_exclusive_maximum n z false e r = (λ p. tt, λ p. large n z e r)

small_exclusive_maximum : (n : ℕ) (z : ℤ) (t : Bool) → nat_lt n (2 ^ 63) ≡ t → IsInRange z
    → (z <ℤ negsuc n) ↔ Meets (beyond_above (if t then Whole (negsuc n) else Below)) z
small_exclusive_maximum n z true e r = (λ p. p, λ p. p)
small_exclusive_maximum n z false e r =
    let l = small n z e r in
    let most = at_least z r in
    (λ p. omega (arith, ints), λ p. omega (arith, ints))

pub exclusive_maximum_limit : (c z : ℤ) → IsInRange z → (z <ℤ c) ↔ Meets (beyond_above (bound c)) z
exclusive_maximum_limit (pos n) z r = large_exclusive_maximum n z (nat_lt n (2 ^ 64)) refl r
exclusive_maximum_limit (negsuc n) z r = small_exclusive_maximum n z (nat_lt n (2 ^ 63)) refl r
