-- What stands at a node of a text's tape.
use Rattle.std.specs.Prelude.{◌≡◌, ℕ, List, Option, None, MatchOption, Some, drop, map}
use Rattle.json.specs.Find.{BeginsWith}
use Rattle.json.specs.Json.{Json, document}
use Rattle.json.specs.Lex.{tokens}
use Rattle.json.specs.Tape.{Linked, node_token}
use Rattle.json.specs.declared.tape.Node.{Node}
use Rattle.js_doc.specs.Positions.{Placed}

-- the nodes are those of the text, which is JSON
abbrev pub IsTape : List ℕ → List Node → Type 0
IsTape text nodes = (map node_token nodes ≡ tokens text) × Linked (map node_token nodes) 0 nodes
    × (j : Json) × (document text ≡ Some j) × BeginsWith (map node_token nodes) j

-- the node is where the value begins, or there is neither
abbrev pub IsPlaced : List Node → Option ℕ → Option Placed → Type 0
IsPlaced nodes found o =
    MatchOption found (o ≡ None) (λ n. (v : Json) × (o ≡ Some (n, v)) × BeginsWith (drop n (map node_token nodes)) v)
