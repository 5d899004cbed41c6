-- The outcome of a move that looks for its node among trees, in preorder.
use Rattle.std.specs.Prelude.{◌≡◌, ℕ, ◌+◌, ◌<◌, List, Option, Some, None, take}
use Rattle.js_tree.specs.Alike.{same_but_keyword}
use Rattle.js_tree.specs.Forest.{Forest, Rose, empty, forest_of, node_count}
use Rattle.js_tree.specs.Moves.{moved_at}
use Rattle.js_tree.specs.OutputUnit.{OutputUnit, noted}
use Rattle.js_tree.specs.declared.reducing.moves.Rule.{Rule}
use Rattle.js_tree.specs.declared.reducing.moves.Search.{Search}
use Rattle.js_tree.specs.declared.reducing.moves.Search.TheVariants.{Made, NotPossible, Further}

-- what the rule makes of the trees at the one with this index, if it is possible there
abbrev pub moved_tree : Rule → List (Rose OutputUnit) → ℕ → Option (Forest OutputUnit)
moved_tree rule ts i = moved_at noted same_but_keyword rule empty (forest_of ts) (node_count (forest_of (take i ts)))

-- the move leads from f to g; or it isn't possible in f; or its node comes `rest` nodes after those of f
abbrev pub Searched : Search → Rule → ℕ → Forest OutputUnit → Forest OutputUnit → Type 0
Searched Made rule n f g = moved_at noted same_but_keyword rule empty f n ≡ Some g
Searched NotPossible rule n f g = (n < node_count f) × (moved_at noted same_but_keyword rule empty f n ≡ None) × (g ≡ f)
Searched (Further rest) rule n f g = (node_count f + rest ≡ n) × (g ≡ f)
