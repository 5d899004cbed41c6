-- A text that grows at its end.
use Rattle.std.specs.Prelude.{◌≡◌, ℕ, List, length, take}

-- what stood there is still at the front
abbrev pub Extends : List ℕ → List ℕ → Type 0
Extends old new = take (length old) new ≡ old
