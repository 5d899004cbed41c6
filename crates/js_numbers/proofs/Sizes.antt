-- A number's size and the integers next to it, compared without division.
use Rattle.std.proofs.Common.{◌≡◌, ℕ, suc, ◌+◌, ◌-◌, ◌*◌, ◌/◌, ◌%◌, ◌^◌, ◌<◌, ◌≤◌, ◌↔◌, min, Bool, true, false, arith}
use Rattle.std.proofs.Common.{refl, sym, ap, ◌∙◌, eqb-true, cond, ◌==◌}
use Rattle.std.proofs.lemmas.Bool.Decides.{nat_tests}
use Rattle.std.proofs.lemmas.Nat.{pow-add}
use native.Mathlib.Nat.{mul_assoc, mul-le-mul_right, le_of_mul-le-mul_right, le-div_iff_mul-le, div-lt_iff_lt-mul}
use native.Mathlib.Nat.{div-add-mod', mul-mod_left}
use Rattle.js_numbers.specs.Decimal.{above, denominator, is_whole, size_down, size_up}
use Rattle.js_numbers.specs.declared.decimal.Decimal.{Decimal}
use Rattle.js_numbers.proofs.Comparing.{IsBetween}
use Rattle.js_numbers.proofs.Tens.{tens_pos}

-- ---- powers of ten that both sides have

abbrev pub common : Decimal → ℕ
common d = 10 ^ min d.up d.down

pub number_is : (d : Decimal) → d.digits * 10 ^ d.up ≡ above d * common d
number_is d =
    let e : d.up ≡ (d.up - d.down) + min d.up d.down = omega arith in
    ap (λ n. d.digits * 10 ^ n) e ∙ ap (λ n. d.digits * n) (pow-add 10 (d.up - d.down) (min d.up d.down))
    ∙ sym (mul_assoc d.digits (10 ^ (d.up - d.down)) (common d))

pub scale_is : (d : Decimal) → 10 ^ d.down ≡ denominator d * common d
scale_is d =
    let e : d.down ≡ (d.down - d.up) + min d.up d.down = omega arith in
    ap (λ n. 10 ^ n) e ∙ pow-add 10 (d.down - d.up) (min d.up d.down)

pub scaled_is : (d : Decimal) (n : ℕ) → n * 10 ^ d.down ≡ n * denominator d * common d
scaled_is d n = ap (λ k. n * k) (scale_is d) ∙ sym (mul_assoc n (denominator d) (common d))

-- ---- rounding of a fraction

pub below_fraction : (a b n : ℕ) → 0 < b → (n * b ≤ a) ↔ (n ≤ a / b)
below_fraction a b n some = let e = le-div_iff_mul-le {k = b} {x = n} {y = a} some in (e.1, e.0)

abbrev rounded_up : Bool → ℕ → ℕ
rounded_up exact n = cond exact n (suc n)

above_fraction : (a b n : ℕ) (exact : Bool) → (a % b == 0) ≡ exact → 0 < b
    → (a ≤ n * b) ↔ (rounded_up exact (a / b) ≤ n)
above_fraction a b n true e some =
    let integer_value : a / b * b ≡ a = omega (arith, div-add-mod' a b, eqb-true _ _ e) in (
      λ h. le_of_mul-le-mul_right {m = a / b} {n = n} {k = b} (omega (arith, integer_value)) some,
      λ h. omega (arith, integer_value, mul-le-mul_right {m = a / b} {n = n} b h),
    )
above_fraction a b n false e some =
    let rest : 0 < a % b = grind (arith, nat_tests) in
    let other : a ≡ n * b → ⊥ = λ q. omega (arith, rest, mul-mod_left n b, ap (λ k. k % b) q) in
    let step = div-lt_iff_lt-mul {k = b} {x = a} {y = n} some in
    (λ h. step.1 (omega (arith, other)), λ h. omega (arith, step.0 h))

pub below_pos : (d : Decimal) → 0 < denominator d
below_pos d = tens_pos (d.down - d.up)

-- ---- rounding of a number

pub number_above : (d : Decimal) (n : ℕ) → (n * 10 ^ d.down ≤ d.digits * 10 ^ d.up) ↔ (n ≤ size_down d)
number_above d n =
    let some = tens_pos (min d.up d.down) in
    let e = below_fraction (above d) (denominator d) n (below_pos d) in
    let same = scaled_is d n in
    let number = number_is d in
    let less = λ (h : n * 10 ^ d.down ≤ d.digits * 10 ^ d.up).
    le_of_mul-le-mul_right {m = n * denominator d} {n = above d} {k = common d} (omega arith) some in
    (λ h. e.0 (less h), λ h. omega (arith, mul-le-mul_right {m = n * denominator d} {n = above d} (common d) (e.1 h)))

pub number_below : (d : Decimal) (n : ℕ) → (d.digits * 10 ^ d.up ≤ n * 10 ^ d.down) ↔ (size_up d ≤ n)
number_below d n =
    let some = tens_pos (min d.up d.down) in
    let e = above_fraction (above d) (denominator d) n (is_whole d) refl (below_pos d) in
    let same = scaled_is d n in
    let number = number_is d in
    let less = λ (h : d.digits * 10 ^ d.up ≤ n * 10 ^ d.down).
    le_of_mul-le-mul_right {m = above d} {n = n * denominator d} {k = common d} (omega arith) some in
    (λ h. e.0 (less h), λ h. omega (arith, mul-le-mul_right {m = above d} {n = n * denominator d} (common d) (e.1 h)))

pub is_between : (d : Decimal) → IsBetween (d.digits * 10 ^ d.up) (10 ^ d.down) (size_down d) (size_up d)
is_between d = record { some = tens_pos d.down; lower = number_above d; upper = number_below d }
