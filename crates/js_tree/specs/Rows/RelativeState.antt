-- What a collector of rows holds that have only what their locations add to those of the node above, with JSON escapes.
use Rattle.std.specs.Prelude.{◌≡◌, ℕ, ◌-◌, ◌+◌, ◌<◌, ◌≤◌, ◌^◌, Bool, true, false, not, ◌&&◌, if◌then◌else◌}
use Rattle.std.specs.Prelude.{nat_eq, List, [], ◌∷◌, ◌++◌, drop, length, map, take}
use Rattle.json.specs.Print.{escape}
use Rattle.js_tree.specs.Events.{Event, Passes, opening, closing}
use Rattle.js_tree.specs.Flat.{flat_form}
use Rattle.js_tree.specs.FlatState.{FlatRow, opening_row, with_closed}
use Rattle.js_tree.specs.Note.{Note, silent, speaks}
use Rattle.js_tree.specs.OutputUnit.{OutputUnit}
use Rattle.js_tree.specs.Result.{ResultTree}
use Rattle.js_tree.specs.Seen.{note_of}
use Rattle.js_tree.specs.Trimmed.{is_silent_leaf, trimmed, trimmed_tree}
use Rattle.js_tree.specs.Rows.Relative.{IsLocated, escaped_tree, relative_tree}
use Rattle.js_tree.specs.declared.rows.relative_rows.OpenNode.{OpenNode as DeclaredOpen}
use Rattle.js_tree.specs.declared.rows.relative_rows.RelativeRow.{RelativeRow}
use Rattle.js_tree.specs.declared.rows.relative_rows.RelativeRows.{RelativeRows}

-- an open node: the number of its row, and how long its locations are
pub record OpenNode : Type 0 where
  pub number : ℕ
  pub keyword : ℕ
  pub instance : ℕ

-- the rows, the open nodes, the innermost first, and whether the rows of silent leaves go
pub record RelativeState : Type 0 where
  pub rows : List FlatRow
  pub nodes : List OpenNode
  pub trims : Bool

abbrev pub relative_start : RelativeState
relative_start = record { rows = []; nodes = []; trims = false }

abbrev pub trimming_start : RelativeState
trimming_start = record { rows = []; nodes = []; trims = true }

abbrev pub rows_of_tree : ResultTree → List FlatRow
rows_of_tree t = flat_form (escaped_tree (relative_tree t))

-- a whole tree's
abbrev pub whole_relative : Bool → ResultTree → RelativeState
whole_relative trims t = record { rows = rows_of_tree t; nodes = []; trims = trims }

-- what a collector that trims has of a tree: its trimmed tree's rows, but none where the root alone is left, silent
abbrev pub trimmed_relative : ResultTree → RelativeState
trimmed_relative t = record {
  rows = if is_silent_leaf t.root (trimmed t.below) then [] else rows_of_tree (trimmed_tree t);
  nodes = [];
  trims = true;
}

abbrev pub open_at : ℕ → List ℕ → List ℕ → OpenNode
open_at number keyword instance = record { number = number; keyword = length keyword; instance = length instance }

-- the innermost; above the root nothing is known
abbrev pub node_above : List OpenNode → OpenNode
node_above [] = open_at 0 [] []
node_above (o ∷ nodes) = o

abbrev pub escaped_row : List ℕ → List ℕ → List ℕ → FlatRow
escaped_row keyword absolute instance = opening_row (escape keyword) (escape absolute) (escape instance)

-- no node opens after the root has closed: when there are rows, and none is open
abbrev pub relative_opened : Bool → List FlatRow → List OpenNode → List ℕ → List ℕ → List ℕ → RelativeState
relative_opened trims [] [] keyword absolute instance =
    record { rows = escaped_row keyword absolute instance ∷ []; nodes = open_at 0 keyword instance ∷ []; trims = trims }
relative_opened trims (r ∷ rows) [] keyword absolute instance = record { rows = r ∷ rows; nodes = []; trims = trims }
relative_opened trims rows (o ∷ nodes) keyword absolute instance =
    record {
      rows = rows ++ escaped_row (drop o.keyword keyword) absolute (drop o.instance instance) ∷ [];
      nodes = open_at (length rows) keyword instance ∷ o ∷ nodes;
      trims = trims;
    }

-- whether the row of a node that closes goes: it has no note, and of the `size` rows of its subtree only it is left
abbrev pub row_goes : Bool → Note → ℕ → Bool
row_goes trims note size = trims && (nat_eq size 1 && not (speaks note))

-- the row of this number goes, or it is closed
abbrev pub rows_closed : Bool → ℕ → Bool → Note → List FlatRow → List FlatRow
rows_closed true number valid note rows = take number rows
rows_closed false number valid note rows = with_closed number valid note (length rows - number) rows

-- where nothing is open nothing closes
abbrev pub relative_closed : Bool → List FlatRow → List OpenNode → Bool → Note → RelativeState
relative_closed trims rows [] valid note = record { rows = rows; nodes = []; trims = trims }
relative_closed trims rows (o ∷ nodes) valid note =
    record {
      rows = rows_closed (row_goes trims note (length rows - o.number)) o.number valid note rows;
      nodes = nodes;
      trims = trims;
    }

abbrev pub relative_after : RelativeState → Event → RelativeState
relative_after s (opening keyword absolute instance) = relative_opened s.trims s.rows s.nodes keyword absolute instance
relative_after s (closing valid note) = relative_closed s.trims s.rows s.nodes valid note

-- ---- of the code

-- what is added to a location: the text, behind a slash or not
abbrev pub part : Bool → List ℕ → List ℕ
part true text = 47 ∷ text
part false text = text

-- it is some text's, with JSON escapes
abbrev pub IsEscaped : List ℕ → Type 0
IsEscaped escaped = (text : List ℕ) × (escaped ≡ escape text)

abbrev pub keyword_part : RelativeRow → List ℕ
keyword_part r = part r.keyword_slash r.keyword.now

abbrev pub absolute_part : RelativeRow → List ℕ
absolute_part r = part r.absolute_slash r.absolute.now

abbrev pub relative_row : RelativeRow → FlatRow
relative_row r = (
  record {
    valid = r.valid;
    keyword = keyword_part r;
    absolute = escape r.schema.now ++ absolute_part r;
    instance = r.instance.now;
    note = note_of r.note;
  },
  r.size,
)

abbrev pub open_node : DeclaredOpen → OpenNode
open_node o = record { number = o.number; keyword = o.keyword; instance = o.instance }

-- the last of the list comes first
abbrev pub open_nodes : List DeclaredOpen → List OpenNode → List OpenNode
open_nodes [] nodes = nodes
open_nodes (o ∷ os) nodes = open_nodes os (open_node o ∷ nodes)

abbrev pub relative_state : RelativeRows → RelativeState
relative_state f = record { rows = map relative_row f.rows.items; nodes = open_nodes f.nodes.items []; trims = f.trims }

-- the rows are those of the tree, the locations of whose nodes begin with those of the node above
pub record AreRowsOf (rows : RelativeRows) (t : ResultTree) : Type 0 where
  pub rows_are : relative_state rows ≡ whole_relative rows.trims t
  pub located : IsLocated t

-- they are those of some tree
abbrev pub AreWhole : RelativeRows → Type 0
AreWhole rows = (t : ResultTree) × AreRowsOf rows t

-- they are those that a collector which trims has of the tree
pub record AreTrimmedOf (rows : RelativeRows) (t : ResultTree) : Type 0 where
  pub trimmed_are : relative_state rows ≡ trimmed_relative t
  pub located : IsLocated t

-- the root is validated as the whole instance by the whole schema, at this absolute location, with this verdict
abbrev pub IsRootAt : List ℕ → Bool → OutputUnit → Type 0
IsRootAt absolute valid u = (u.keyword ≡ []) × (u.instance ≡ []) × (u.absolute ≡ absolute) × (u.valid ≡ valid)

-- a node that opens and closes at once, passing and without a note, leads from the rows back to them, wherever it is
abbrev pub DropsSilentLeaf : RelativeRows → Type 0
DropsSilentLeaf rows = (keyword absolute instance : List ℕ)
    → Passes (λ a e b. relative_state b ≡ relative_after (relative_state a) e)
    (opening keyword absolute instance ∷ closing true silent ∷ []) rows rows

-- the innermost open node has a keyword location as long as this one and an instance location no shorter than this one,
-- and there is room for one more row and one more open node
pub record TakesLeafAt (rows : RelativeRows) (keyword instance : List ℕ) : Type 0 where
  pub node : OpenNode
  pub others : List OpenNode
  pub open_are : open_nodes rows.nodes.items [] ≡ node ∷ others
  pub keyword_is : node.keyword ≡ length keyword
  pub instance_is : length instance ≤ node.instance
  pub few : length rows.rows.items + 1 < 2 ^ 63
  pub shallow : length rows.nodes.items + 1 < 2 ^ 63

-- the keyword with this name, of this schema, opens and closes at once below the node at these locations: its events
-- lead from the old rows to the new
abbrev pub HasLeaf : (keyword schema name instance : List ℕ) → Bool → Note → RelativeRows → RelativeRows → Type 0
HasLeaf keyword schema name instance valid note old new =
    Passes (λ a e b. relative_state b ≡ relative_after (relative_state a) e)
    (opening (keyword ++ 47 ∷ name) (schema ++ 47 ∷ name) instance ∷ closing valid note ∷ []) old new
