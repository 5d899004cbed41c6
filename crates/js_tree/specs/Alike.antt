-- Which units are equal except for their keyword locations, as a function.
use Rattle.std.specs.Prelude.{Bool, true, false, ◌&&◌, ◌==◌, nat_eq, []}
use Rattle.std.specs.Bool.{beq}
use Rattle.std.specs.Cmp.Lexicographic.{pointwise}
use Rattle.js_doc.specs.Equality.{same}
use Rattle.js_tree.specs.Note.{Note, silent, error, value, names, index, indexes, truly}
use Rattle.js_tree.specs.OutputUnit.{OutputUnit}

-- the notes are equal
abbrev pub same_note : Note → Note → Bool
same_note silent silent = true
same_note (error a) (error b) = pointwise nat_eq a b
same_note (value v) (value w) = same v w
same_note (names a) (names b) = pointwise (pointwise nat_eq) a b
same_note (index m) (index n) = m == n
same_note (indexes a) (indexes b) = pointwise nat_eq a b
same_note truly truly = true
same_note _ _ = false

-- whether the units are equal except for their keyword locations
abbrev pub same_but_keyword : OutputUnit → OutputUnit → Bool
same_but_keyword u v = beq u.valid v.valid
    && (pointwise nat_eq u.instance v.instance && (pointwise nat_eq u.absolute v.absolute && same_note u.note v.note))

-- the unit without its keyword location
abbrev pub without_keyword : OutputUnit → OutputUnit
without_keyword u = record
    { valid = u.valid; keyword = []; absolute = u.absolute; instance = u.instance; note = u.note }
