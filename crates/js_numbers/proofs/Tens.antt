-- Powers of ten beside numbers of 64 and 128 bits.
use Rattle.std.proofs.Common.{◌≡◌, ℕ, ◌*◌, ◌/◌, ◌%◌, ◌^◌, ◌<◌, ◌≤◌, min, sym, arith, lit<, mul-le-mul_left}
use Rattle.std.proofs.Common.{mul-le-mul_right}
use native.Mathlib.Nat.{one-le-pow, pow-le-pow_right, div-eq_of_lt, mod-eq_of_lt}

pub tens_pos : (n : ℕ) → 0 < 10 ^ n
tens_pos n = omega (arith, one-le-pow n 10 (lit< tt))

pub tens_fit : (n : ℕ) → n ≤ 38 → 10 ^ n < 2 ^ 128
tens_fit n h = let high : 10 ^ n ≤ 10 ^ 38 = pow-le-pow_right (lit< tt) {j = 38} h in omega arith

pub tens_exceed : (n : ℕ) → 38 < n → 2 ^ 128 ≤ 10 ^ n
tens_exceed n h = let low : 10 ^ 39 ≤ 10 ^ n = pow-le-pow_right (lit< tt) {i = 39} (omega arith) in omega arith

pub quotient_zero : (a n : ℕ) → a < 2 ^ 128 → 38 < n → 0 ≡ a / 10 ^ n
quotient_zero a n fits h = sym (div-eq_of_lt (omega (arith, tens_exceed n h)))

pub rest_same : (a n : ℕ) → a < 2 ^ 128 → 38 < n → a ≡ a % 10 ^ n
rest_same a n fits h = sym (mod-eq_of_lt (omega (arith, tens_exceed n h)))

pub product_large : (a n : ℕ) → 2 ^ 64 ≤ a → 2 ^ 64 ≡ min (a * 10 ^ n) (2 ^ 64)
product_large a n h = omega (arith, mul-le-mul_left a (tens_pos n))

pub product_long : (a n : ℕ) → 0 < a → 19 < n → 2 ^ 64 ≡ min (a * 10 ^ n) (2 ^ 64)
product_long a n some h =
    let low : 10 ^ 20 ≤ 10 ^ n = pow-le-pow_right (lit< tt) {i = 20} (omega arith) in
    let one : 1 ≤ a = some in
    omega (arith, mul-le-mul_right (10 ^ n) one)
