-- The whole numbers of this profile: integers in plain digits (`1.0`, `1e2` and `-0` aren't) that 64 bits hold, with or
-- without a sign.
use Rattle.std.specs.Prelude.{◌≡◌, ◌<◌, ◌^◌, ℕ, ℤ, pos, negsuc, Bool, true, false, refl}

-- from -2^63 to 2^64 - 1
abbrev pub IsWhole : ℤ → Type 0
IsWhole (pos n) = n < 2 ^ 64
IsWhole (negsuc n) = n < 2 ^ 63

-- the number below 0 that is -1 less n, or n
abbrev pub signed : Bool → ℕ → ℤ
signed true n = negsuc n
signed false n = pos n

abbrev pub bits_of : ℤ → ℕ
bits_of (pos n) = n
bits_of (negsuc n) = n

abbrev pub sign_of : ℤ → Bool
sign_of (pos n) = false
sign_of (negsuc n) = true

pub bits_back : (b : Bool) (n : ℕ) → bits_of (signed b n) ≡ n
bits_back true n = refl
bits_back false n = refl

pub sign_back : (b : Bool) (n : ℕ) → sign_of (signed b n) ≡ b
sign_back true n = refl
sign_back false n = refl
