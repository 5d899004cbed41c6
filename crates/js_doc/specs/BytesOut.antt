-- Bytes that go out piece by piece, until no more are taken.
use Rattle.std.specs.Prelude.{◌≡◌, ℕ, ◌+◌, ◌≤◌, List, ◌++◌, length, Bool, true, Option, Result, MatchResult}
use Rattle.std.specs.Io.KnownBytes.{Appends}

-- how far the bytes have come
pub record Progress : Type 0 where
  -- the bytes that have gone out, where they are known
  pub gone : Option (List ℕ)
  -- how often the device behind it was called
  pub calls : ℕ
  -- no more are taken
  pub stopped : Bool

-- at most one call for each byte
abbrev pub CallsOnce : Progress → Progress → List ℕ → Type 0
CallsOnce old new bytes = (old.calls ≤ new.calls) × (new.calls ≤ old.calls + length bytes)

-- all of the bytes have gone out
abbrev pub Goes : Progress → Progress → List ℕ → Type 0
Goes old new bytes = Appends old.gone new.gone bytes × CallsOnce old new bytes × (new.stopped ≡ old.stopped)

-- a prefix of the bytes has gone out, and it has stopped
abbrev pub Stops : Progress → Progress → List ℕ → Type 0
Stops old new bytes =
    (part : List ℕ) × (left : List ℕ) × (part ++ left ≡ bytes) × Appends old.gone new.gone part
    × CallsOnce old new bytes × (new.stopped ≡ true)

abbrev pub Puts : {T E : Type 0} → Progress → Progress → List ℕ → Result T E → Type 0
Puts old new bytes result = MatchResult result (λ _. Goes old new bytes) (λ _. Stops old new bytes)
