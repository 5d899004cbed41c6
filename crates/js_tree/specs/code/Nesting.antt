-- Where a tree ends in rows (of private functions).
use Rattle.std.specs.Prelude.{ℕ, zero, suc, ◌-◌, Bool, true, false, ltb, if◌then◌else◌}
use Rattle.js_tree.specs.Forest.{Forest, empty, tree, node_count}

-- some of the first trees have exactly this number of nodes together
abbrev pub ends_after : {A : Type 0} → ℕ → Forest A → Bool
ends_after zero f = true
ends_after (suc n) empty = false
ends_after (suc n) (tree a below after) =
    if ltb n (node_count below) then false else ends_after (n - node_count below) after
