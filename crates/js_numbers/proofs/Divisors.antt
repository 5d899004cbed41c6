-- Euclid's algorithm gives the greatest common divisor.
use Rattle.std.proofs.Common.{◌≡◌, ℕ, zero, suc, ◌+◌, ◌*◌, ◌/◌, ◌%◌, ◌<◌, ◌≤◌, arith, refl, sym, ap, ◌∙◌, subst}
use Rattle.std.specs.Int.{IsGcd}
use Rattle.std.proofs.lemmas.Nat.Gcd.{IsGcd-from_zero, IsGcd-from_mod, same_from_IsGcd}
use native.Mathlib.Nat.{mod-lt, div-add-mod, mul-add, mul_assoc, dvd-add_iff_right, dvd-mul_right_of_dvd, dvd-mul_left}
use native.Mathlib.Nat.{pos_of_dvd_of_pos, div-mul_cancel, dvd_of_mul-dvd-mul_right, mul-mul-mul_comm}
use Rattle.core.specs.Int.{◌∣◌}
use Rattle.js_numbers.specs.Decimal.{gcd, gcd_within}

pub is_gcd_within : (n a b : ℕ) → b ≤ n → IsGcd a b (gcd_within n a b)
is_gcd_within zero a b h = IsGcd-from_zero a b (omega arith)
is_gcd_within (suc n) a zero h = IsGcd-from_zero a zero refl
is_gcd_within (suc n) a (suc b) h =
    IsGcd-from_mod a (suc b) _ (is_gcd_within n (suc b) (a % suc b) (omega (arith, mod-lt a {m = suc b})))

pub is_gcd : (a b : ℕ) → IsGcd a b (gcd a b)
is_gcd a b = is_gcd_within b a b (omega arith)

pub gcd_from : (a b g : ℕ) → IsGcd a b g → g ≡ gcd a b
gcd_from a b g h = same_from_IsGcd a b g (gcd a b) h (is_gcd a b)

-- what divides both multiples divides that of the greatest common divisor
scaled_rest : (d n a b : ℕ) → d ∣ n * a → d ∣ n * b → d ∣ n * (a % b)
scaled_rest d n a b p q =
    let split : n * a ≡ n * b * (a / b) + n * (a % b) =
    ap (λ k. n * k) (sym (div-add-mod a b)) ∙ mul-add n (b * (a / b)) (a % b)
    ∙ ap (λ k. k + n * (a % b)) (sym (mul_assoc n b (a / b))) in
    (dvd-add_iff_right d {m = n * b * (a / b)} {n = n * (a % b)} (dvd-mul_right_of_dvd d q (a / b))).1
    (subst (λ k. d ∣ k) split p)

scaled_within : (k d n a b : ℕ) → b ≤ k → d ∣ n * a → d ∣ n * b → d ∣ n * gcd_within k a b
scaled_within zero d n a b h p q = p
scaled_within (suc k) d n a zero h p q = p
scaled_within (suc k) d n a (suc b) h p q =
    scaled_within k d n (suc b) (a % suc b) (omega (arith, mod-lt a {m = suc b})) q (scaled_rest d n a (suc b) p q)

gcd_pos : (a b : ℕ) → 0 < b → 0 < gcd a b
gcd_pos a b some = pos_of_dvd_of_pos (is_gcd a b).1 some

-- n is a multiple of a / b exactly if it is one of its numerator
pub multiple_gives : (a b n times : ℕ) → 0 < b → n * b ≡ times * a → (a / gcd a b) ∣ n
multiple_gives a b n times some e =
    let g = gcd a b in
    let divides : a ∣ n * b = subst (λ k. a ∣ k) (sym e) (dvd-mul_left a times) in
    let scaled : a ∣ n * g = scaled_within b a n a b (omega arith) (dvd-mul_left a n) divides in
    dvd_of_mul-dvd-mul_right {k = g} (a / g) {n = n} (gcd_pos a b some)
    (subst (λ k. k ∣ n * g) (sym (div-mul_cancel g (is_gcd a b).0)) scaled)

pub multiple_from : (a b n : ℕ) → (a / gcd a b) ∣ n → n * b ≡ n / (a / gcd a b) * (b / gcd a b) * a
multiple_from a b n h =
    let g = gcd a b in
    let top = a / g in
    let times = n / top in
    ap (λ k. k * b) (sym (div-mul_cancel top h)) ∙ ap (λ k. times * top * k) (sym (div-mul_cancel g (is_gcd a b).1))
    ∙ mul-mul-mul_comm times top (b / g) g ∙ ap (λ k. times * (b / g) * k) (div-mul_cancel g (is_gcd a b).0)
