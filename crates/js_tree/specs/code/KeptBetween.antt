-- What pruning and condensing leave of trees that have only what their locations add, as such trees again (of private
-- functions). A node that goes hands on what it adds to the nodes below it.
use Rattle.std.specs.Prelude.{◌≡◌, ◌≤◌, ℕ, Bool, List, [], ◌++◌, OnOk, Result, drop, length, map, if◌then◌else◌}
use Rattle.json.specs.Print.{escape}
use Rattle.js_tree.specs.Flat.{flat_of}
use Rattle.js_tree.specs.Forest.{Forest, empty, tree, ◌⊹◌}
use Rattle.js_tree.specs.OutputUnit.{OutputUnit}
use Rattle.js_tree.specs.Result.{ResultTree}
use Rattle.js_tree.specs.Rows.Marks.{left_trees, mark_of}
use Rattle.js_tree.specs.Rows.Relative.{escaped, placed_unit, relative_tree}
use Rattle.js_tree.specs.Rows.RelativeState.{keyword_part, relative_row}
use Rattle.js_tree.specs.code.Listing.{AreMarkedRows}
use Rattle.js_tree.specs.declared.rows.keeping.Between.{Between}
use Rattle.js_tree.specs.declared.rows.keeping.Keeper.{Keeper}
use Rattle.js_tree.specs.declared.rows.keeping.Lengths.{Lengths}
use Rattle.js_tree.specs.declared.rows.relative_rows.RelativeRow.{RelativeRow}
use Rattle.js_tree.specs.declared.rows.marks.Left.{Left}

-- What is left of a tree with this mark and of the trees after it: `stays` puts its root before these, and `below` is
-- left of the trees below a root that goes.
abbrev pub by_mark : Left → (Forest OutputUnit → Forest OutputUnit) → Forest OutputUnit
    → Forest OutputUnit → Forest OutputUnit
by_mark m stays below after = if m.stays then stays after else (if m.below then (below ⊹ after) else after)

-- the trees, where the removed nodes between them and the kept node above add this to its locations
abbrev pub kept_between : Bool → List ℕ → List ℕ → Forest OutputUnit → Forest OutputUnit
kept_between verdict keyword instance empty = empty
kept_between verdict keyword instance (tree u below after) =
    by_mark (mark_of verdict u (left_trees verdict below))
    (tree (placed_unit keyword instance u) (kept_between verdict [] [] below))
    (kept_between verdict (keyword ++ u.keyword) (instance ++ u.instance) below)
    (kept_between verdict keyword instance after)

-- the root stays
abbrev pub kept_relative : ResultTree → ResultTree
kept_relative t = let r = relative_tree t in record { root = r.root; below = kept_between t.root.valid [] [] r.below }

-- ---- of the code

-- what is behind the start is what the removed nodes since the last kept one add, with escapes
pub record IsPending (between : Between) (start : Lengths) (keyword : List ℕ) (instance : List ℕ) : Type 0 where
  pub keyword_fits : start.keyword ≤ length between.keyword.items
  pub instance_fits : start.instance ≤ length between.instance.items
  pub keyword_is : drop start.keyword between.keyword.items ≡ escape keyword
  pub instance_is : drop start.instance between.instance.items ≡ escape instance

-- the same parts
pub record AreSame (old : Between) (new : Between) : Type 0 where
  pub keyword : new.keyword.items ≡ old.keyword.items
  pub instance : new.instance.items ≡ old.instance.items

-- with what the row adds
pub record AreLonger (old : Between) (row : RelativeRow) (new : Between) : Type 0 where
  pub keyword : new.keyword.items ≡ old.keyword.items ++ keyword_part row
  pub instance : new.instance.items ≡ old.instance.items ++ row.instance.now

-- how long the parts are
abbrev pub IsEnd : Between → Lengths → Type 0
IsEnd between start = (start.keyword ≡ length between.keyword.items) × (start.instance ≡ length between.instance.items)

-- the rows of the trees were added
abbrev pub AreAdded : List RelativeRow → List RelativeRow → Forest OutputUnit → Type 0
AreAdded old new f = map relative_row new ≡ map relative_row old ++ flat_of (escaped f)

-- the rows and the marks are those of trees
abbrev pub AreMarksOfTrees : List RelativeRow → List Left → Type 0
AreMarksOfTrees rows marks = (v : Bool) × (f : Forest OutputUnit) × AreMarkedRows rows marks v f

-- and those of one tree
abbrev pub IsMarked : List RelativeRow → List Left → Type 0
IsMarked rows marks = (v : Bool) × (u : OutputUnit) × (below : Forest OutputUnit)
    × AreMarkedRows rows marks v (tree u below empty)

-- as much is pending as before
pub record StaysPending (old : Keeper) (new : Keeper) : Type 0 where
  pub parts : AreSame old.between new.between
  pub start : new.start ≡ old.start

-- what is left of the trees was added
abbrev pub KeepsTrees : {T E : Type 0} → Keeper → List RelativeRow → List Left → Keeper → Result T E → Type 0
KeepsTrees old rows marks new result =
    (v : Bool) (f : Forest OutputUnit) (keyword instance : List ℕ) → IsPending old.between old.start keyword instance
    → AreMarkedRows rows marks v f
    → OnOk result (AreAdded old.kept.items new.kept.items (kept_between v keyword instance f))

-- what is said to be left of the tree was added
abbrev pub KeepsTree : {T E : Type 0} → (Bool → List ℕ → List ℕ → OutputUnit → Forest OutputUnit → Forest OutputUnit)
    → Keeper → List RelativeRow → List Left → Keeper → Result T E → Type 0
KeepsTree left old rows marks new result =
    (v : Bool) (u : OutputUnit) (below : Forest OutputUnit) (keyword instance : List ℕ)
    → IsPending old.between old.start keyword instance → AreMarkedRows rows marks v (tree u below empty)
    → OnOk result (AreAdded old.kept.items new.kept.items (left v keyword instance u below))

abbrev pub left_of_tree : Bool → List ℕ → List ℕ → OutputUnit → Forest OutputUnit → Forest OutputUnit
left_of_tree v keyword instance u below = kept_between v keyword instance (tree u below empty)

-- the node, which stays, over what is left below it
abbrev pub over_what_is_left : Bool → List ℕ → List ℕ → OutputUnit → Forest OutputUnit → Forest OutputUnit
over_what_is_left v keyword instance u below = tree (placed_unit keyword instance u) (kept_between v [] [] below) empty

-- what is left below a node that goes
abbrev pub left_below : Bool → List ℕ → List ℕ → OutputUnit → Forest OutputUnit → Forest OutputUnit
left_below v keyword instance u below = kept_between v (keyword ++ u.keyword) (instance ++ u.instance) below
