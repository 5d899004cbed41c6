use Rattle.std.proofs.Common.{◌≡◌, drop, map}
use Rattle.json.specs.Find.{BeginsWith}
use Rattle.json.specs.Json.{Json}
use Rattle.json.specs.Tape.{node_token}
use Rattle.js_doc.specs.Positions.{value_placed}
use Rattle.js_doc.proofs.positions.nodes.value_placed.Given as goal

-- the rest decides
abbrev pub invariant-loop-token : goal.invariant-loop-token
invariant-loop-token l =
    (j : Json) → BeginsWith (map node_token l.nodes) j → (v : Json) × BeginsWith (drop l.at (map node_token l.nodes)) v
    × (value_placed l.pointer 0 j ≡ value_placed (drop l.token-index l.pointer) l.at v)
