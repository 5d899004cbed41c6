-- A table of the spots at which the tokens of a text begin.
use Rattle.std.specs.Prelude.{◌≡◌, ℕ, ◌<◌, ◌≤◌, List, length, get_or}
use Rattle.js_doc.specs.Positions.{spot_at, token_start}
use Rattle.js_doc.specs.Spots.{spot_seen}
use Rattle.js_doc.specs.declared.positions.spots.Spot.{Spot}

-- an entry is where its token begins
abbrev pub AreBegun : List ℕ → List Spot → Type 0
AreBegun text spots =
    (n : ℕ) → n < length spots → (d : Spot) → spot_seen (get_or spots n d) ≡ spot_at text (token_start n text)

-- so are all, and no token has no entry
abbrev pub AreAllBegun : List ℕ → List Spot → Type 0
AreAllBegun text spots = AreBegun text spots × ((n : ℕ) → length spots ≤ n → token_start n text ≡ length text)
