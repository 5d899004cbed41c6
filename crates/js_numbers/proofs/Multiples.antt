-- The multiples of a number are those of its numerator.
use Rattle.std.proofs.Common.{◌≡◌, ℕ, zero, suc, pos, ◌*◌, ◌/◌, ◌^◌, ◌<◌, ◌↔◌, min, Bool, true, false, arith, refl}
use Rattle.std.proofs.Common.{sym, ap, ◌∙◌, subst}
use Rattle.std.specs.Prelude.{if◌then◌else◌, nat_lt}
use Rattle.std.proofs.lemmas.Bool.Decides.{nat_tests}
use Rattle.core.specs.Int.{◌∣◌}
use native.Mathlib.Nat.{dvd-zero, eq_of_mul-eq-mul_right, le_of_dvd, mul_assoc}
use Rattle.js_numbers.specs.Decimal.{above, denominator, bound, gcd, numerator}
use Rattle.js_numbers.specs.Laws.{IsMultiple, IsMultipleOf}
use Rattle.js_numbers.specs.declared.bound.Bound.TheVariants.{Whole, Above}
use Rattle.js_numbers.specs.declared.decimal.Decimal.{Decimal}
use Rattle.js_numbers.proofs.Divisors.{multiple_from, multiple_gives}
use Rattle.js_numbers.proofs.Sizes.{below_pos, common, number_is, scaled_is}
use Rattle.js_numbers.proofs.Tens.{tens_pos}

-- the multiple of the number, with the powers of ten that both sides have
times_is : (d : Decimal) (times : ℕ) → times * (d.digits * 10 ^ d.up) ≡ times * above d * common d
times_is d times = ap (λ k. times * k) (number_is d) ∙ sym (mul_assoc times (above d) (common d))

pub of_numerator : (d : Decimal) (n : ℕ) → IsMultiple d n ↔ (numerator d ∣ n)
of_numerator d n = (
  λ h.
      let e : n * denominator d * common d ≡ h.0 * above d * common d = sym (scaled_is d n) ∙ h.1 ∙ times_is d h.0 in
      multiple_gives (above d) (denominator d) n h.0 (below_pos d)
      (eq_of_mul-eq-mul_right (common d) (tens_pos (min d.up d.down)) (n * denominator d) (h.0 * above d) e),
  λ h.
      let times = n / numerator d * (denominator d / gcd (above d) (denominator d)) in (
        times,
        scaled_is d n ∙ ap (λ k. k * common d) (multiple_from (above d) (denominator d) n h)
            ∙ sym (times_is d times),
      ),
)

large : (m n : ℕ) → nat_lt m (2 ^ 64) ≡ false → n < 2 ^ 64 → m ∣ n → n ≡ 0
large m zero e r h = refl
large m (suc n) e r h = let most = le_of_dvd {m = m} {n = suc n} (omega arith) h in absurd (grind (arith, nat_tests))

in_range : (m n : ℕ) (t : Bool) → nat_lt m (2 ^ 64) ≡ t → n < 2 ^ 64
    → (m ∣ n) ↔ IsMultipleOf (if t then Whole (pos m) else Above) n
in_range m n true e r = (λ h. h, λ h. h)
in_range m n false e r = (large m n e r, λ h. subst (λ k. m ∣ k) (sym h) (dvd-zero m))

pub of_bound : (m n : ℕ) → n < 2 ^ 64 → (m ∣ n) ↔ IsMultipleOf (bound (pos m)) n
of_bound m n r = in_range m n (nat_lt m (2 ^ 64)) refl r
