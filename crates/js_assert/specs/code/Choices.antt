-- Values, and their places in ascending order.
use Rattle.std.specs.Prelude.{◌≡◌, ℕ, Bool, List, get_or, map}
use Rattle.std.specs.List.{list_any}
use Rattle.std.specs.List.Sorted.{IsSorted}
use Rattle.std.specs.Ordering.{on}
use Rattle.js_doc.specs.Equality.{same}
use Rattle.js_doc.specs.Order.{order}
use Rattle.js_doc.specs.Seen.{value_of}
use Rattle.js_doc.specs.Value.{Value, Values}
use Rattle.js_doc.specs.declared.doc.Doc.{Doc}
use Rattle.js_doc.specs.declared.doc.Doc.TheVariants as doc

-- one of the values is equal to v
abbrev pub is_among : Value → Values → Bool
is_among v vs = list_any (λ w. same w v) vs

-- the value at a place, and null where there is none
abbrev pub value_in : List Doc → ℕ → Value
value_in docs i = value_of (get_or docs i doc.Null)

-- the places are in the order of the values there, and these are the values
abbrev pub IsIndex : List Doc → List ℕ → Type 0
IsIndex docs places = IsSorted (on (value_in docs) order) places
    × ((v : Value) → is_among v (map (value_in docs) places) ≡ is_among v (map value_of docs))
