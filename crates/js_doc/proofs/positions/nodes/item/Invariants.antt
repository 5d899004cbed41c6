use Rattle.std.proofs.Common.{◌≡◌, ℕ, ◌+◌, drop, map}
use Rattle.json.specs.Find.{InItems}
use Rattle.json.specs.Json.{Items}
use Rattle.json.specs.Tape.{node_token}
use Rattle.js_doc.specs.Positions.{item_placed}
use Rattle.js_doc.proofs.positions.nodes.item.Given as goal

-- the rest decides
abbrev pub invariant-loop-at : goal.invariant-loop-at
invariant-loop-at l =
    (js : Items) → InItems (drop l.first (map node_token l.nodes)) js → (rest : Items) × (i : ℕ)
    × InItems (drop l.at (map node_token l.nodes)) rest
    × (item_placed l.token 0 l.first js ≡ item_placed l.token i l.at rest) × (i + l.left ≡ l.wanted)

abbrev pub decreases-loop-at : goal.decreases-loop-at
decreases-loop-at l = l.left
