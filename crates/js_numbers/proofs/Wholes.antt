-- A number that is an integer is its floor and its ceiling.
use Rattle.std.proofs.Common.{◌≡◌, ℕ, ℤ, pos, negsuc, neg_ℤ, suc, ◌^◌, Bool, true, false, Some, None, arith, refl}
use Rattle.std.proofs.Common.{subst}
use Rattle.std.specs.Prelude.{◌≤ℤ◌, if◌then◌else◌, nat_lt}
use Rattle.std.proofs.lemmas.Bool.Decides.{nat_tests}
use Rattle.std.proofs.lemmas.Int.{ints}
use Rattle.js_numbers.specs.Decimal.{IsInRange, bound, in_range}
use Rattle.js_numbers.specs.declared.bound.Bound.TheVariants.{Below, Whole, Above}

-- ---- the range

large : (n : ℕ) (z : ℤ) (t : Bool) → nat_lt n (2 ^ 64) ≡ t → in_range (if t then Whole (pos n) else Above) ≡ Some z
    → (pos n ≡ z) × IsInRange z
large n z true e h = let same : pos n ≡ z = cc in (same, subst IsInRange same (grind (arith, nat_tests)))
large n z false e h = absurd cc

small : (n : ℕ) (z : ℤ) (t : Bool) → nat_lt n (2 ^ 63) ≡ t → in_range (if t then Whole (negsuc n) else Below) ≡ Some z
    → (negsuc n ≡ z) × IsInRange z
small n z true e h = let same : negsuc n ≡ z = cc in (same, subst IsInRange same (grind (arith, nat_tests)))
small n z false e h = absurd cc

pub in_range_is : (c z : ℤ) → in_range (bound c) ≡ Some z → (c ≡ z) × IsInRange z
in_range_is (pos n) z h = large n z (nat_lt n (2 ^ 64)) refl h
in_range_is (negsuc n) z h = small n z (nat_lt n (2 ^ 63)) refl h

pub in_range_of : (z : ℤ) → IsInRange z → in_range (bound z) ≡ Some z
in_range_of (pos n) r = grind (arith, nat_tests)
in_range_of (negsuc n) r = grind (arith, nat_tests)

-- ---- the floor and the ceiling of what is at least `down` and, unless it is exact, below `suc down`

abbrev rounded : Bool → ℕ → ℕ
rounded exact down = if exact then down else suc down

abbrev pub low : (exact negative : Bool) → ℕ → ℤ
low exact negative down = if negative then neg_ℤ (pos (rounded exact down)) else pos down

abbrev pub high : (exact negative : Bool) → ℕ → ℤ
high exact negative down = if negative then neg_ℤ (pos down) else pos (rounded exact down)

pub whole_from : (exact negative : Bool) (down : ℕ) (z : ℤ) → IsInRange z → high exact negative down ≤ℤ z
    → z ≤ℤ low exact negative down → (if exact then in_range (bound (low exact negative down)) else None) ≡ Some z
whole_from true false down z r above below =
    let e : z ≡ pos down = omega (arith, ints) in subst (λ n. in_range (bound n) ≡ Some z) e (in_range_of z r)
whole_from true true down z r above below =
    let e : z ≡ neg_ℤ (pos down) = omega (arith, ints) in
    subst (λ n. in_range (bound n) ≡ Some z) e (in_range_of z r)
whole_from false false down z r above below = absurd (omega (arith, ints))
whole_from false true down z r above below = absurd (omega (arith, ints))

pub whole_gives : (exact negative : Bool) (down : ℕ) (z : ℤ)
    → (if exact then in_range (bound (low exact negative down)) else None) ≡ Some z
    → IsInRange z × (high exact negative down ≤ℤ z) × (z ≤ℤ low exact negative down)
whole_gives true false down z h =
    let same = in_range_is (pos down) z h in
    let e = same.0 in
    (same.1, omega (arith, ints, e), omega (arith, ints, e))
whole_gives true true down z h =
    let same = in_range_is (neg_ℤ (pos down)) z h in
    let e = same.0 in
    (same.1, omega (arith, ints, e), omega (arith, ints, e))
whole_gives false negative down z h = absurd cc
