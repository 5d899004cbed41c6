use Rattle.std.proofs.Common.{◌≡◌, map, take}
use Rattle.js_doc.specs.Positions.{spots}
use Rattle.js_doc.specs.Spots.{spots_seen}
use Rattle.js_doc.proofs.positions.batch.all_found.Given as goal

-- what the first pointers gave
abbrev pub invariant-loop-pointer : goal.invariant-loop-pointer
invariant-loop-pointer l = map spots_seen l.all.items ≡ map (spots l.text) (take l.pointer-index l.pointers)
