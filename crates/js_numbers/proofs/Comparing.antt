-- An integer and a number, compared by their signs and sizes.
use Rattle.std.proofs.Common.{◌≡◌, ℕ, ℤ, pos, negsuc, neg_ℤ, suc, ◌*◌, ◌<◌, ◌≤◌, ◌↔◌, Bool, true, false, arith, ap}
use Rattle.std.specs.Prelude.{◌*ℤ◌, ◌≤ℤ◌, ◌<ℤ◌, if◌then◌else◌}
use Rattle.std.proofs.lemmas.Int.{by_lt_z, ints}
use native.Mathlib.Nat.{le-mul_of_pos_right, mul-pos}
use Rattle.fast_float.specs.Text.{with_sign}

-- the naturals next to size / scale
pub record IsBetween (size scale down up : ℕ) : Type 0 where
  pub some : 0 < scale
  pub lower : (n : ℕ) → (n * scale ≤ size) ↔ (n ≤ down)
  pub upper : (n : ℕ) → (size ≤ n * scale) ↔ (up ≤ n)

below_zero : (scale m : ℕ) → 0 < scale → 0 < suc m * scale
below_zero scale m some = mul-pos {m = suc m} {n = scale} (omega arith) some

pub minimum_limit : (size scale down up : ℕ) → IsBetween size scale down up → (negative : Bool) (z : ℤ)
    → (with_sign negative size ≤ℤ (z *ℤ pos scale)) ↔ ((if negative then neg_ℤ (pos down) else pos up) ≤ℤ z)
minimum_limit size scale down up h false (pos n) = (
  λ p. let q : up ≤ n = (h.upper n).0 (omega (arith, ints)) in omega (arith, ints),
  λ p. let q : size ≤ n * scale = (h.upper n).1 (omega (arith, ints)) in omega (arith, ints),
)
minimum_limit size scale down up h false (negsuc m) =
    let some = below_zero scale m h.some in
    (λ p. absurd (omega (arith, ints)), λ p. absurd (omega (arith, ints)))
minimum_limit size scale down up h true (pos n) = (λ p. omega (arith, ints), λ p. omega (arith, ints))
minimum_limit size scale down up h true (negsuc m) = (
  λ p. let q : suc m ≤ down = (h.lower (suc m)).0 (omega (arith, ints)) in omega (arith, ints),
  λ p. let q : suc m * scale ≤ size = (h.lower (suc m)).1 (omega (arith, ints)) in omega (arith, ints),
)

pub maximum_limit : (size scale down up : ℕ) → IsBetween size scale down up → (negative : Bool) (z : ℤ)
    → ((z *ℤ pos scale) ≤ℤ with_sign negative size) ↔ (z ≤ℤ (if negative then neg_ℤ (pos up) else pos down))
maximum_limit size scale down up h false (pos n) = (
  λ p. let q : n ≤ down = (h.lower n).0 (omega (arith, ints)) in omega (arith, ints),
  λ p. let q : n * scale ≤ size = (h.lower n).1 (omega (arith, ints)) in omega (arith, ints),
)
maximum_limit size scale down up h false (negsuc m) = (λ p. omega (arith, ints), λ p. omega (arith, ints))
maximum_limit size scale down up h true (pos n) =
    let some = le-mul_of_pos_right {m = scale} n h.some in (
      λ p. let q : up ≤ 0 = (h.upper 0).0 (omega (arith, ints)) in omega (arith, ints, some),
      λ p.
          let none : n ≡ 0 = omega (arith, ints) in
          let q : size ≤ n * scale = (h.upper n).1 (omega (arith, ints)) in
          omega (arith, ints, ap (λ k. k * scale) none),
    )
maximum_limit size scale down up h true (negsuc m) = (
  λ p. let q : up ≤ suc m = (h.upper (suc m)).0 (omega (arith, ints)) in omega (arith, ints),
  λ p. let q : size ≤ suc m * scale = (h.upper (suc m)).1 (omega (arith, ints)) in omega (arith, ints),
)

pub order_turned : (a b c d : ℤ) → (a ≤ℤ b) ↔ (c ≤ℤ d) → (b <ℤ a) ↔ (d <ℤ c)
order_turned a b c d h = (
  λ p. by_lt_z d c (λ q. q) (λ q. let r : a ≤ℤ b = h.1 q in absurd (omega (arith, ints))),
  λ p. by_lt_z b a (λ q. q) (λ q. let r : c ≤ℤ d = h.0 q in absurd (omega (arith, ints))),
)
