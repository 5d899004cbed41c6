-- What basic lists and what condensing keeps of trees that have only what their locations add, below a node with given
-- locations.
use Rattle.std.specs.Prelude.{◌≡◌, ℕ, Bool, true, List, [], ◌∷◌, ◌++◌, ◌&&◌, ◌||◌, nat_lt}
use Rattle.std.specs.Prelude.{if◌then◌else◌, map, Result, MatchResult}
use Rattle.js_doc.specs.BytesOut.{Goes, Progress, Stops}
use Rattle.js_doc.specs.Compact.{comma_if, compact}
use Rattle.js_doc.specs.Value.{Value}
use Rattle.js_tree.specs.FlatState.{FlatRow}
use Rattle.js_tree.specs.Form.{node_value}
use Rattle.js_tree.specs.Forest.{Forest}
use Rattle.js_tree.specs.Kept.{kept_below}
use Rattle.js_tree.specs.OutputUnit.{OutputUnit, noted}
use Rattle.js_tree.specs.Pruned.{pruned_below}
use Rattle.js_tree.specs.Result.{has_verdict}
use Rattle.js_tree.specs.Units.{units_below}
use Rattle.js_tree.specs.Rows.Marks.{marked}
use Rattle.js_tree.specs.Rows.Relative.{placed, placed_unit}
use Rattle.js_tree.specs.code.RelativeText.{AreRowsOfTrees}
use Rattle.js_tree.specs.declared.rows.relative_rows.RelativeRow.{RelativeRow}
use Rattle.js_tree.specs.declared.rows.marks.Left.{Left}

-- the values from somewhere in the array on, with commas between
abbrev pub values_text : Bool → List Value → List ℕ
values_text later [] = []
values_text later (v ∷ vs) = comma_if later ++ (compact v ++ values_text true vs)

-- something stands before what comes after them
abbrev pub later_after : Bool → List Value → Bool
later_after later [] = later
later_after later (v ∷ vs) = true

-- all of them have gone out, and it is known whether something stands before what comes next
pub record AllListed (old : Progress) (new : Progress) (later : Bool) (vs : List Value) (now : Bool) : Type 0 where
  pub goes : Goes old new (values_text later vs)
  pub now_is : now ≡ later_after later vs

-- or it has stopped
abbrev pub AreListed : {E : Type 0} → Progress → Progress → Bool → List Value → Result Bool E → Type 0
AreListed old new later vs result =
    MatchResult result (λ now. AllListed old new later vs now) (λ _. Stops old new (values_text later vs))

-- ---- basic

-- a node without children
abbrev pub leaves : List OutputUnit → List Value
leaves us = map (λ u. node_value u []) us

-- the units that are listed of the trees
abbrev pub listed : Bool → List ℕ → List ℕ → Forest OutputUnit → List Value
listed verdict keyword instance f =
    leaves (units_below noted (pruned_below (has_verdict verdict) (placed keyword instance f)))

-- the unit, if it has a note
abbrev pub if_noted : OutputUnit → List Value
if_noted u = if noted u then node_value u [] ∷ [] else []

-- those of a tree whose root has the verdict
abbrev pub listed_tree : Bool → List ℕ → List ℕ → OutputUnit → Forest OutputUnit → List Value
listed_tree verdict keyword instance u below =
    if_noted (placed_unit keyword instance u) ++ listed verdict (keyword ++ u.keyword) (instance ++ u.instance) below

-- the tree with this first row can have some: its root has the verdict, and it is more than a node without a note
abbrev pub may_list : Bool → FlatRow → Bool
may_list verdict row = has_verdict verdict row.0 && (nat_lt 1 row.1 || noted row.0)

-- ---- condensing

-- what is left of the trees
abbrev pub condensed : Bool → List ℕ → List ℕ → Forest OutputUnit → Forest OutputUnit
condensed verdict keyword instance f = kept_below noted (pruned_below (has_verdict verdict) (placed keyword instance f))

-- the rows and the marks are those of the trees
pub record AreMarkedRows (rows : List RelativeRow) (marks : List Left) (verdict : Bool)
    (f : Forest OutputUnit) : Type 0 where
  pub rows_are : AreRowsOfTrees rows f
  pub marks_are : marks ≡ marked verdict f
