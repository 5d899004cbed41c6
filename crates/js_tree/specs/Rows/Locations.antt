-- The locations of a node, with JSON escapes, while the rows of its tree are gone through from the root on (JSON Schema
-- Core, section 12.3).
use Rattle.std.specs.Prelude.{◌≡◌, ℕ, ◌+◌, ◌≤◌, List, ◌++◌, codes, length, vec_capacity}
use Rattle.std.specs.List.{sum_by}
use Rattle.json.specs.Print.{escape}
use Rattle.js_tree.specs.Rows.RelativeState.{keyword_part}
use Rattle.js_tree.specs.declared.rows.locations.Locations.{Locations}
use Rattle.js_tree.specs.declared.rows.relative_rows.RelativeRow.{RelativeRow}
use Rattle.js_tree.specs.declared.rows.relative_rows.RelativeRows.{RelativeRows}

-- how much the rows add to the keyword locations, all together, and to the instance locations
abbrev pub keywords_added : List RelativeRow → ℕ
keywords_added rows = sum_by (λ r. length (keyword_part r)) rows

abbrev pub instances_added : List RelativeRow → ℕ
instances_added rows = sum_by (λ r. length r.instance.now) rows

-- there is memory for all that the rows add, so that none has to be taken on the way
pub record HasRoom (at : Locations) (rows : List RelativeRow) : Type 0 where
  pub for_keyword : length at.keyword.items + keywords_added rows ≤ vec_capacity at.keyword
  pub for_instance : length at.instance.items + instances_added rows ≤ vec_capacity at.instance

-- what stands before the keyword location: it is written with it
abbrev pub keyword_start : List ℕ
keyword_start = codes "\",\"keywordLocation\":\""

-- and what stands before the instance location
abbrev pub instance_start : List ℕ
instance_start = codes "\",\"instanceLocation\":\""

-- they are those above the root of the rows, and there is room for those of each node
pub record HasRoomFor (at : Locations) (rows : RelativeRows) : Type 0 where
  pub above_root : (at.keyword.items ≡ keyword_start) × (at.instance.items ≡ instance_start)
  pub room : HasRoom at rows.rows.items

-- these are they, without the escapes
pub record AreAt (at : Locations) (keyword : List ℕ) (instance : List ℕ) : Type 0 where
  pub keyword_is : at.keyword.items ≡ keyword_start ++ escape keyword
  pub instance_is : at.instance.items ≡ instance_start ++ escape instance

-- they are a node's
pub record AreSomewhere (at : Locations) : Type 0 where
  pub keyword : List ℕ
  pub instance : List ℕ
  pub there : AreAt at keyword instance

-- the same locations, and no less room
pub record IsBack (old : Locations) (new : Locations) : Type 0 where
  pub same_keyword : new.keyword.items ≡ old.keyword.items
  pub same_instance : new.instance.items ≡ old.instance.items
  pub keyword_room : vec_capacity old.keyword ≤ vec_capacity new.keyword
  pub instance_room : vec_capacity old.instance ≤ vec_capacity new.instance

-- from the node above to that of the row
pub record IsDown (old : Locations) (row : RelativeRow) (new : Locations) : Type 0 where
  pub longer_keyword : new.keyword.items ≡ old.keyword.items ++ keyword_part row
  pub longer_instance : new.instance.items ≡ old.instance.items ++ row.instance.now
  pub keyword_room : vec_capacity old.keyword ≤ vec_capacity new.keyword
  pub instance_room : vec_capacity old.instance ≤ vec_capacity new.instance

-- and back to the node above it
pub record IsUp (old : Locations) (row : RelativeRow) (new : Locations) : Type 0 where
  pub shorter_keyword : (above : List ℕ) → old.keyword.items ≡ above ++ keyword_part row → new.keyword.items ≡ above
  pub shorter_instance : (above : List ℕ) → old.instance.items ≡ above ++ row.instance.now → new.instance.items ≡ above
  pub keyword_room : vec_capacity old.keyword ≤ vec_capacity new.keyword
  pub instance_room : vec_capacity old.instance ≤ vec_capacity new.instance
