-- The text of a node whose row has only what its locations add, in pieces (of private functions).
use Rattle.std.specs.Prelude.{◌≡◌, ℕ, Bool, true, false, List, [], ◌∷◌, ◌++◌, codes, map}
use Rattle.json.specs.Print.{escape}
use Rattle.js_doc.specs.Compact.{comma_if, compact}
use Rattle.js_tree.specs.Flat.{flat_form, flat_of}
use Rattle.js_tree.specs.Forest.{Forest}
use Rattle.js_tree.specs.Form.{node_value}
use Rattle.js_tree.specs.Note.{Note}
use Rattle.js_tree.specs.OutputUnit.{OutputUnit}
use Rattle.js_tree.specs.Result.{ResultTree}
use Rattle.js_tree.specs.Seen.{note_of}
use Rattle.js_tree.specs.NodeText.{annotation_part, children_start, end_text, error_behind}
use Rattle.js_tree.specs.Rows.Locations.{AreSomewhere}
use Rattle.js_tree.specs.Rows.Relative.{escaped, escaped_tree}
use Rattle.js_tree.specs.Rows.RelativeState.{absolute_part, relative_row}
use Rattle.js_tree.specs.declared.rows.locations.Locations.{Locations}
use Rattle.js_tree.specs.declared.rows.relative_rows.RelativeRow.{RelativeRow}

-- the rows are those of the trees, whose locations have no escapes
abbrev pub AreRowsOfTrees : List RelativeRow → Forest OutputUnit → Type 0
AreRowsOfTrees rows f = map relative_row rows ≡ flat_of (escaped f)

abbrev pub AreRowsOfTree : List RelativeRow → ResultTree → Type 0
AreRowsOfTree rows t = map relative_row rows ≡ flat_form (escaped_tree t)

-- it is the absolute location of the row's node, without the escapes
abbrev pub IsAbsolute : RelativeRow → List ℕ → Type 0
IsAbsolute r absolute = escape r.schema.now ++ absolute_part r ≡ escape absolute

-- the locations are those of the row's node
pub record AreOfNode (at : Locations) (r : RelativeRow) : Type 0 where
  pub somewhere : AreSomewhere at
  pub absolute : List ℕ
  pub absolute_is : IsAbsolute r absolute

-- the row's unit, with these locations
abbrev pub unit_there : RelativeRow → List ℕ → List ℕ → List ℕ → OutputUnit
unit_there r keyword absolute instance =
    record { valid = r.valid; keyword = keyword; absolute = absolute; instance = instance; note = note_of r.note }

-- up to the absolute location, whose closing quotation mark comes with what follows
abbrev pub opening_text : Bool → List ℕ → List ℕ
opening_text later absolute = comma_if later ++ (codes "{\"absoluteKeywordLocation\":\"" ++ escape absolute)

-- what stands before the children of a node that has some
abbrev pub before_children : Bool → List ℕ → Note → Bool → List ℕ
before_children later absolute note valid =
    opening_text later absolute ++ ((34 ∷ annotation_part note) ++ children_start note valid)

-- and what stands after them
abbrev pub after_children : List ℕ → List ℕ → Note → Bool → List ℕ
after_children instance keyword note valid = 93 ∷ (error_behind note valid ++ end_text instance keyword valid)

-- what goes before the children of a node, or all of a node without any
abbrev pub start_text : Bool → Bool → RelativeRow → List ℕ → List ℕ → List ℕ → List ℕ
start_text true later r keyword absolute instance = before_children later absolute (note_of r.note) r.valid
start_text false later r keyword absolute instance = comma_if later
    ++ compact (node_value (unit_there r keyword absolute instance) [])
