-- An order of result trees that ignores keyword locations (of private functions).
use Rattle.std.specs.Prelude.{◌≡◌, ℕ, List, get_or}
use Rattle.std.specs.Cmp.Lexicographic.{slice_cmp}
use Rattle.std.specs.Ordering.{nat_cmp, bool_cmp, ordering_then}
use Rattle.std.specs.declared.cmp.Ordering.{Ordering}
use Rattle.std.specs.declared.cmp.Ordering.TheVariants.{Less, Equal, Greater}
use Rattle.js_tree.specs.Forest.{Forest, empty, tree}
use Rattle.js_tree.specs.Note.{Note, silent, error, value, names, index, indexes, truly}
use Rattle.js_tree.specs.OutputUnit.{OutputUnit}
use Rattle.js_tree.specs.Result.{ResultTree}

abbrev pub note_rank : Note → ℕ
note_rank silent = 0
note_rank (error text) = 1
note_rank (value v) = 2
note_rank (names ns) = 3
note_rank (index i) = 4
note_rank (indexes is) = 5
note_rank truly = 6

-- by kind, and within a kind by content; but values are all equal
abbrev pub note_order : Note → Note → Ordering
note_order (error a) (error b) = slice_cmp nat_cmp a b
note_order (names a) (names b) = slice_cmp (slice_cmp nat_cmp) a b
note_order (index m) (index n) = nat_cmp m n
note_order (indexes a) (indexes b) = slice_cmp nat_cmp a b
note_order m n = nat_cmp (note_rank m) (note_rank n)

-- by verdict, instance location, absolute keyword location and note
abbrev pub unit_order : OutputUnit → OutputUnit → Ordering
unit_order u v = ordering_then (bool_cmp u.valid v.valid) (ordering_then (slice_cmp nat_cmp u.instance v.instance)
    (ordering_then (slice_cmp nat_cmp u.absolute v.absolute) (note_order u.note v.note)))

-- tree by tree; in a tree by its root, and then by the trees below it
abbrev pub forest_order : Forest OutputUnit → Forest OutputUnit → Ordering
forest_order empty empty = Equal
forest_order empty (tree v under others) = Less
forest_order (tree u below after) empty = Greater
forest_order (tree u below after) (tree v under others) =
    ordering_then (ordering_then (unit_order u v) (forest_order below under)) (forest_order after others)

abbrev pub result_tree_order : ResultTree → ResultTree → Ordering
result_tree_order t u = ordering_then (unit_order t.root u.root) (forest_order t.below u.below)

-- the tree at i comes before the one at j
abbrev pub IsBefore : List ResultTree → ℕ → ℕ → Type 0
IsBefore ts i j = (d : ResultTree) → result_tree_order (get_or ts i d) (get_or ts j d) ≡ Less
