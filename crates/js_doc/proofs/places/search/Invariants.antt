use Rattle.std.proofs.Common.{◌-◌, ◌≤◌, map, length}
use Rattle.js_doc.specs.Seen.{pair_of}
use Rattle.js_doc.specs.code.Places.{rank, rank_past}
use Rattle.js_doc.proofs.places.search.Given as goal

abbrev pub invariant-loop-low : goal.invariant-loop-low
invariant-loop-low l =
    let ms = map pair_of l.entries in
    (l.low ≤ rank l.name ms) × (rank_past l.name ms ≤ l.high) × (l.high ≤ length l.entries)

abbrev pub decreases-loop-low : goal.decreases-loop-low
decreases-loop-low l = l.high - l.low
