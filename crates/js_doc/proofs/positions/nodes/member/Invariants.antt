use Rattle.std.proofs.Common.{◌≡◌, ◌-◌, None, Option, drop, length, map}
use Rattle.json.specs.Find.{InMembers}
use Rattle.json.specs.Json.{Members}
use Rattle.json.specs.Tape.{node_token}
use Rattle.js_doc.specs.Positions.{Placed, member_placed}
use Rattle.js_doc.specs.code.Nodes.{IsPlaced}
use Rattle.js_doc.proofs.positions.nodes.member.Given as goal

-- the rest decides
abbrev pub invariant-loop-at : goal.invariant-loop-at
invariant-loop-at l =
    (ms : Members) → InMembers (drop l.first (map node_token l.nodes)) ms → (rest : Members) × (was : Option Placed)
    × InMembers (drop l.at (map node_token l.nodes)) rest × IsPlaced l.nodes l.found was
    × (member_placed l.name None l.first ms ≡ member_placed l.name was l.at rest)

abbrev pub decreases-loop-at : goal.decreases-loop-at
decreases-loop-at l = length l.nodes - l.at
