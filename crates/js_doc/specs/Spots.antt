-- Spots of the code as numbers.
use Rattle.std.specs.Prelude.{ℕ, Option, option_map}
use Rattle.js_doc.specs.declared.positions.spots.Spot.{Spot}
use Rattle.js_doc.specs.declared.positions.batch.Spots.{Spots}

abbrev pub spot_seen : Spot → ℕ × (ℕ × ℕ)
spot_seen s = (s.offset, (s.line, s.column))

abbrev pub spots_seen : Option Spots → Option ((ℕ × (ℕ × ℕ)) × (ℕ × Option (ℕ × (ℕ × ℕ))))
spots_seen = option_map (λ s. (spot_seen s.value, (s.end, option_map spot_seen s.name)))
