-- Trees of which no two siblings stand at the same places, and so no two are alike (of private functions).
use Rattle.std.specs.Prelude.{◌≡◌, Bool, true, not, ◌&&◌, List, map, nat_eq}
use Rattle.std.specs.Cmp.Lexicographic.{pointwise}
use Rattle.js_tree.specs.Flat.{flat_of}
use Rattle.js_tree.specs.Forest.{Forest, empty, tree}
use Rattle.js_tree.specs.OutputUnit.{OutputUnit}
use Rattle.js_tree.specs.Rows.RelativeState.{relative_row}
use Rattle.js_tree.specs.declared.rows.relative_rows.RelativeRow.{RelativeRow}

-- the units have the same instance location and the same absolute keyword location
abbrev pub same_places : OutputUnit → OutputUnit → Bool
same_places u v = pointwise nat_eq u.instance v.instance && pointwise nat_eq u.absolute v.absolute

-- none of the trees' roots stands where this unit does
abbrev pub none_there : OutputUnit → Forest OutputUnit → Bool
none_there u empty = true
none_there u (tree v under after) = not (same_places u v) && none_there u after

-- no two siblings stand at the same places, among the trees and below them
abbrev pub siblings_differ : Forest OutputUnit → Bool
siblings_differ empty = true
siblings_differ (tree u below after) = none_there u after && (siblings_differ below && siblings_differ after)

-- the rows are those of some trees
abbrev pub AreTrees : List RelativeRow → Type 0
AreTrees rows = (f : Forest OutputUnit) × (map relative_row rows ≡ flat_of f)
