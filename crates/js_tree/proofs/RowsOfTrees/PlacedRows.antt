-- The trees that rows are of, with whole locations, one after the other.
use Rattle.std.proofs.Common.{◌≡◌, ℕ, ◌+◌, ◌-◌, ◌<◌, ◌≤◌, List, [], ◌∷◌, ◌++◌, length, take, drop}
use Rattle.std.proofs.Common.{map, get_or, refl, ap, ap₂, sym, ◌∙◌, arith}
use Rattle.std.specs.List.{sum_by}
use Rattle.std.proofs.lemmas.List.Sums.{sum_by-take-drop}
use borrow.Rule.Slice.PartMut.{put_mid}
use Rattle.js_tree.specs.Forest.{Forest, empty, tree, ◌⊹◌, forest_of}
use Rattle.js_tree.specs.Note.{Note}
use Rattle.js_tree.specs.OutputUnit.{OutputUnit}
use Rattle.js_tree.specs.Result.{ResultTree}
use Rattle.js_tree.specs.Seen.{note_of}
use Rattle.js_tree.proofs.ChildTexts.{rest_of}
use Rattle.js_tree.proofs.FlatRows.{drop-drop, rows_below}
use Rattle.js_tree.proofs.Forests.{append-append, append-empty}
use Rattle.js_tree.proofs.Marks.{flat_form-flat_of}
use Rattle.js_tree.specs.Rows.Locations.{AreAt, AreSomewhere, HasRoom, IsBack, IsDown, IsUp}
use Rattle.js_tree.specs.Rows.Relative.{escaped_tree, escaped_unit, placed}
use Rattle.js_tree.specs.Rows.RelativeState.{keyword_part, relative_row}
use Rattle.js_tree.specs.code.RelativeText.{AreOfNode, AreRowsOfTree, AreRowsOfTrees, IsAbsolute, unit_there}
use Rattle.js_tree.specs.declared.rows.locations.Locations.{Locations}
use Rattle.js_tree.specs.declared.rows.relative_rows.RelativeRow.{RelativeRow}
use Rattle.js_tree.proofs.RowsOfTrees.EscapedRows.{NextTree, entered, is_absolute, no_trees, still_at}
use Rattle.js_tree.proofs.WrittenRows.RelativeTexts.{unit_is_there}
use Rattle.js_tree.proofs.RowsOfTrees.RoomLeft.{some_row}

-- ---- the rows of one tree

pub rows_of_one : (rows : List RelativeRow) (u : OutputUnit) (below : Forest OutputUnit)
    → AreRowsOfTrees rows (tree u below empty)
    → AreRowsOfTree rows (record { root = u; below = below })
rows_of_one rows u below h = h ∙ sym (flat_form-flat_of (escaped_tree (record { root = u; below = below })))

pub rows_under : (rows : List RelativeRow) (u : OutputUnit) (below : Forest OutputUnit)
    → AreRowsOfTree rows (record { root = u; below = below })
    → AreRowsOfTrees (take (length rows - 1) (drop 1 rows)) below
rows_under rows u below h =
    ap (map relative_row) (rest_of rows)
    ∙ rows_below relative_row rows (escaped_tree (record { root = u; below = below })) h

-- the first is still there when those behind it have changed
pub first_again : (rows these : List RelativeRow) (n : ℕ) (x y : RelativeRow) → 0 < length rows
    → get_or rows 0 x ≡ get_or (put_mid 1 n rows these) 0 y
first_again [] these n x y h = absurd (omega (arith, h))
first_again (r ∷ rows) these n x y h = refl

-- at its root, before the trees below it are taken and after that
pub record StillEntered (y : RelativeRow) (t : ResultTree) (mid : Locations) (new : Locations) (k : List ℕ)
    (i : List ℕ) : Type 0 where
  pub root : (relative_row y).0 ≡ escaped_unit t.root
  pub absolute : IsAbsolute y t.root.absolute
  pub down : AreAt mid (k ++ t.root.keyword) (i ++ t.root.instance)
  pub still : AreAt new (k ++ t.root.keyword) (i ++ t.root.instance)

pub still_entered : (rows these : List RelativeRow) (t : ResultTree) (x y : RelativeRow) (old mid new : Locations)
    (k i : List ℕ) → AreRowsOfTree rows t → x ≡ get_or rows 0 x → AreAt old k i
    → IsDown old (get_or rows 0 x) mid → IsBack mid new
    → StillEntered (get_or (put_mid 1 (length rows - 1) rows these) 0 y) t mid new k i
still_entered rows these t x y old mid new k i h is at d b =
    let n = entered rows t (get_or rows 0 x) old mid k i h (ap (get_or rows 0) is) at d in
    let again = get_or (put_mid 1 (length rows - 1) rows these) 0 y in
    let same : get_or rows 0 x
    ≡ again = first_again rows these (length rows - 1) x y (some_row rows (escaped_tree t) h) in
    let root = ap (λ r. (relative_row r).0) (sym same) ∙ n.root in
    record {
      root = root;
      absolute = is_absolute again t.root root;
      down = n.down;
      still = still_at mid new (k ++ t.root.keyword) (i ++ t.root.instance) n.down b;
    }

-- the locations stay a node's, from one node to the next
pub somewhere_below : (rows : List RelativeRow) (t : ResultTree) (x : RelativeRow) (old new : Locations)
    → AreRowsOfTree rows t → x ≡ get_or rows 0 x → IsDown old x new → AreSomewhere old → AreSomewhere new
somewhere_below rows t x old new h is d w = record {
  keyword = w.keyword ++ t.root.keyword;
  instance = w.instance ++ t.root.instance;
  there = (entered rows t x old new w.keyword w.instance h is w.there d).down;
}

pub still_somewhere : (old new : Locations) → IsBack old new → AreSomewhere old → AreSomewhere new
still_somewhere old new b w = record {
  keyword = w.keyword;
  instance = w.instance;
  there = still_at old new w.keyword w.instance w.there b;
}

pub still_of_node : (y : RelativeRow) (t : ResultTree) (mid new : Locations) (k i : List ℕ)
    → StillEntered y t mid new k i → AreOfNode new y
still_of_node y t mid new k i n = record {
  somewhere = record { keyword = k ++ t.root.keyword; instance = i ++ t.root.instance; there = n.still };
  absolute = t.root.absolute;
  absolute_is = n.absolute;
}

-- the node of a row whose note has been moved
pub with_head : (x : RelativeRow) (k a i k' a' i' : List ℕ) (g : Forest OutputUnit) (note : Note) → k' ≡ k → a' ≡ a
    → i' ≡ i → note ≡ note_of x.note
    → ◌≡◌ {A = ResultTree} (record
    { root = record { valid = x.valid; keyword = k'; absolute = a'; instance = i'; note = note }; below = g })
    (record { root = unit_there x k a i; below = g })
with_head x k a i k' a' i' g note e1 e2 e3 e = rw (e1, e2, e3, e) refl

pub node_placed : (k i : List ℕ) (x : RelativeRow) (u : OutputUnit) (g below : Forest OutputUnit)
    → (relative_row x).0 ≡ escaped_unit u
    → g ≡ placed (k ++ u.keyword) (i ++ u.instance) below
    → tree (unit_there x (k ++ u.keyword) u.absolute (i ++ u.instance)) g empty ≡ placed k i (tree u below empty)
node_placed k i x u g below e is = ap₂ (λ v f. tree v f empty) (unit_is_there k i x u e) is

-- down to its node, and up again
pub there_and_back : (a b c d : Locations) (x y : RelativeRow) → IsDown a x b → IsBack b c
    → IsUp c y d → x ≡ y → IsBack a d
there_and_back a b c d x y down back up e = record {
  same_keyword = up.shorter_keyword a.keyword.items
      (back.same_keyword ∙ (down.longer_keyword ∙ ap (λ r. a.keyword.items ++ keyword_part r) e));
  same_instance = up.shorter_instance a.instance.items
      (back.same_instance ∙ (down.longer_instance ∙ ap (λ r. a.instance.items ++ r.instance.now) e));
  keyword_room = omega (arith, down.keyword_room, back.keyword_room, up.keyword_room);
  instance_room = omega (arith, down.instance_room, back.instance_room, up.instance_room);
}

-- ---- room for the rows that come later

rest_le : (f : RelativeRow → ℕ) (rows : List RelativeRow) (n end : ℕ) → n ≤ end
    → sum_by f (drop end rows) ≤ sum_by f (drop n rows)
rest_le f rows n end h =
    let is : end ≡ n + (end - n) = omega (arith, h) in
    omega (
      arith,
      ap (λ m. sum_by f (drop m rows)) is,
      ap (sum_by f) (drop-drop n (end - n) rows),
      sum_by-take-drop f
          (drop n rows) (end - n),
    )

pub room_for_rest : (l : Locations) (rows : List RelativeRow) (n end : ℕ) → n ≤ end → HasRoom l (drop n rows)
    → HasRoom l (drop end rows)
room_for_rest l rows n end e h = record {
  for_keyword = omega (arith, h.for_keyword, rest_le (λ r. length (keyword_part r)) rows n end e);
  for_instance = omega (arith, h.for_instance, rest_le (λ r. length r.instance.now) rows n end e);
}

-- ---- tree by tree

pub rows_of_next : (rows : List RelativeRow) (next : ℕ) (f : Forest OutputUnit) (end : ℕ) (t : NextTree rows next f end)
    → AreRowsOfTrees (take (end - next) (drop next rows)) (tree t.unit t.below empty)
rows_of_next rows next f end t = t.all ∙ flat_form-flat_of (escaped_tree (record { root = t.unit; below = t.below }))

-- with the trees that the rows from the next on are of, they are all
pub record LeftToTake (k : List ℕ) (i : List ℕ) (taken : Forest OutputUnit) (rows : List RelativeRow) (next : ℕ)
    (f : Forest OutputUnit) : Type 0 where
  pub left : Forest OutputUnit
  pub left_is : AreRowsOfTrees (drop next rows) left
  pub all : (taken ⊹ placed k i left) ≡ placed k i f

-- what has been taken of the trees of the rows `all` before the next, wherever their node stands, and where it is said
-- to stand
abbrev pub TakesUpTo : Forest OutputUnit → List RelativeRow → List RelativeRow → ℕ → Locations → Locations → Type 0
TakesUpTo taken all rows next above at =
    (next ≤ length rows)
    × IsBack above at
    × HasRoom above (drop next rows)
    × ((f : Forest OutputUnit) → AreRowsOfTrees all f
    → (left : Forest OutputUnit) × AreRowsOfTrees (drop next rows) left)
    × ((f : Forest OutputUnit) (keyword instance : List ℕ) → AreAt above keyword instance → AreRowsOfTrees all f
    → LeftToTake keyword instance taken rows next f)

pub take_starts : (k i : List ℕ) (trees : List ResultTree) (rows : List RelativeRow) (f : Forest OutputUnit)
    → trees ≡ [] → AreRowsOfTrees rows f
    → LeftToTake k i (forest_of trees) rows 0 f
take_starts k i trees rows f e h = record { left = f; left_is = h; all = ap (λ ts. forest_of ts ⊹ placed k i f) e }

pub take_goes_on : (k i : List ℕ) (taken now : Forest OutputUnit) (rows more : List RelativeRow) (next : ℕ)
    (f : Forest OutputUnit) (end : ℕ)
    (w : LeftToTake k i taken rows next f) (t : NextTree rows next w.left end)
    → now ≡ (taken ⊹ placed k i (tree t.unit t.below empty)) → drop end more ≡ drop end rows
    → LeftToTake k i now more end f
take_goes_on k i taken now rows more next f end w t e d = record {
  left = t.after;
  left_is = ap (map relative_row) d ∙ t.more;
  all =
      ap (λ g. g ⊹ placed k i t.after) e
      ∙ (append-append taken (placed k i (tree t.unit t.below empty)) (placed k i t.after)
      ∙ (ap (λ g. taken ⊹ placed k i g) (sym t.is) ∙ w.all));
}

pub take_ends : (k i : List ℕ) (taken : Forest OutputUnit) (rows : List RelativeRow) (next : ℕ) (f : Forest OutputUnit)
    → LeftToTake k i taken rows next f → length rows ≤ next → taken ≡ placed k i f
take_ends k i taken rows next f w h =
    sym (append-empty taken) ∙ (ap (λ g. taken ⊹ placed k i g) (sym (no_trees rows next w.left w.left_is h)) ∙ w.all)
