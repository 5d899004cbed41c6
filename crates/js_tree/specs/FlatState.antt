-- The state of a collector of the flat form.
use Rattle.std.specs.Prelude.{◌≡◌, ℕ, zero, suc, ◌-◌, Bool, false, if◌then◌else◌, List, [], ◌∷◌, ◌++◌, length, map}
use Rattle.js_tree.specs.Events.{Event, opening, closing}
use Rattle.js_tree.specs.Flat.{flat_form}
use Rattle.js_tree.specs.Note.{Note, silent}
use Rattle.js_tree.specs.OutputUnit.{OutputUnit, noted}
use Rattle.js_tree.specs.Result.{ResultTree}
use Rattle.js_tree.specs.declared.collecting.flat.Row.{Row}
use Rattle.js_tree.specs.declared.collecting.flat.Flat.{Flat}

abbrev pub FlatRow : Type 0
FlatRow = OutputUnit × ℕ

-- the rows, and the indexes of those whose nodes are open, the innermost first
pub record FlatState : Type 0 where
  pub rows : List FlatRow
  pub numbers : List ℕ

abbrev pub flat_start : FlatState
flat_start = record { rows = []; numbers = [] }

-- the state after a whole tree
abbrev pub whole_tree : ResultTree → FlatState
whole_tree t = record { rows = flat_form t; numbers = [] }

-- it is the state after some whole tree
abbrev pub IsWholeTree : FlatState → Type 0
IsWholeTree s = (t : ResultTree) × (s ≡ whole_tree t)

-- the noted units
abbrev pub noted_of : List FlatRow → List OutputUnit
noted_of [] = []
noted_of (r ∷ rows) = if noted r.0 then r.0 ∷ noted_of rows else noted_of rows

-- the row of an open node, of which only the locations are known
abbrev pub opening_row : List ℕ → List ℕ → List ℕ → FlatRow
opening_row keyword absolute instance =
    (record { valid = false; keyword = keyword; absolute = absolute; instance = instance; note = silent }, 0)

-- no node opens after the root has closed, that is if there are rows and none is open
abbrev pub flat_opened : List FlatRow → List ℕ → FlatRow → FlatState
flat_opened [] [] row = record { rows = row ∷ []; numbers = 0 ∷ [] }
flat_opened (r ∷ rows) [] row = record { rows = r ∷ rows; numbers = [] }
flat_opened rows (n ∷ numbers) row = record { rows = rows ++ row ∷ []; numbers = length rows ∷ n ∷ numbers }

abbrev pub closed_unit : OutputUnit → Bool → Note → OutputUnit
closed_unit u valid note =
    record { valid = valid; keyword = u.keyword; absolute = u.absolute; instance = u.instance; note = note }

abbrev pub closed_row : FlatRow → Bool → Note → ℕ → FlatRow
closed_row row valid note size = (closed_unit row.0 valid note, size)

-- with the row of this index closed
abbrev pub with_closed : ℕ → Bool → Note → ℕ → List FlatRow → List FlatRow
with_closed n valid note size [] = []
with_closed zero valid note size (r ∷ rows) = closed_row r valid note size ∷ rows
with_closed (suc n) valid note size (r ∷ rows) = r ∷ with_closed n valid note size rows

-- without an open node nothing closes
abbrev pub flat_closed : List FlatRow → List ℕ → Bool → Note → FlatState
flat_closed rows [] valid note = record { rows = rows; numbers = [] }
flat_closed rows (n ∷ numbers) valid note =
    record { rows = with_closed n valid note (length rows - n) rows; numbers = numbers }

abbrev pub flat_after : FlatState → Event → FlatState
flat_after s (opening keyword absolute instance) = flat_opened s.rows s.numbers (opening_row keyword absolute instance)
flat_after s (closing valid note) = flat_closed s.rows s.numbers valid note

abbrev pub row_of : Row → FlatRow
row_of r = (r.unit, r.size)

-- the last of the list comes first
abbrev pub open_numbers : List ℕ → List ℕ → List ℕ
open_numbers [] numbers = numbers
open_numbers (n ∷ ns) numbers = open_numbers ns (n ∷ numbers)

abbrev pub flat_state : Flat → FlatState
flat_state f = record { rows = map row_of f.rows.items; numbers = open_numbers f.numbers.items [] }
