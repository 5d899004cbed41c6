use Rattle.std.proofs.Common.{◌≡◌, length, map, take}
use Rattle.js_doc.specs.Spots.{spots_seen}
use Rattle.jschema_c.specs.Locating.{position_seen, spots_told}
use Rattle.jschema_c.proofs.position.put_all.Given as goal

abbrev pub invariant-loop-i : goal.invariant-loop-i
invariant-loop-i l =
    (length l.positions ≡ length l.found)
    × (map position_seen (take l.i l.positions) ≡ map (λ s. spots_told (spots_seen s)) (take l.i l.found))
