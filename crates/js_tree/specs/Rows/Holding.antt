-- The state of `RelativeRows` after the events of a tree.
use Rattle.std.specs.Prelude.{◌≡◌}
use Rattle.js_tree.specs.Events.{events, Passes}
use Rattle.js_tree.specs.Result.{ResultTree}
use Rattle.js_tree.specs.Rows.Relative.{IsLocated}
use Rattle.js_tree.specs.Rows.RelativeState.{AreRowsOf, AreTrimmedOf, relative_after, relative_start}
use Rattle.js_tree.specs.Rows.RelativeState.{relative_state, trimming_start}
use Rattle.js_tree.specs.declared.rows.relative_rows.RelativeRows.{RelativeRows}

-- if each node's locations begin with those of the node above
abbrev pub RelativeHolds : Type 0
RelativeHolds =
    (t : ResultTree) (c d : RelativeRows) → IsLocated t → relative_state c ≡ relative_start
    → Passes (λ a e b. relative_state b ≡ relative_after (relative_state a) e) (events t) c d → AreRowsOf d t

abbrev pub TrimmingHolds : Type 0
TrimmingHolds =
    (t : ResultTree) (c d : RelativeRows) → IsLocated t → relative_state c ≡ trimming_start
    → Passes (λ a e b. relative_state b ≡ relative_after (relative_state a) e) (events t) c d → AreTrimmedOf d t
