-- Rows whose locations have JSON escapes, and the trees without them.
use Rattle.std.proofs.Common.{◌≡◌, ℕ, suc, ◌+◌, ◌-◌, ◌≤◌, ◌<◌, Bool, true, false, List, [], ◌∷◌, ◌++◌, length, take}
use Rattle.std.proofs.Common.{drop, get_or, map, refl, ap, ap₂, sym, ◌∙◌, append_assoc, append-nil}
use Rattle.std.proofs.lemmas.Grind.{flat_map-append}
use Rattle.json.specs.Print.{escape, escape_byte}
use Rattle.js_tree.specs.Flat.{flat_form, flat_of}
use Rattle.js_tree.specs.Forest.{Forest, empty, tree, node_count}
use Rattle.js_tree.specs.OutputUnit.{OutputUnit}
use Rattle.js_tree.specs.Result.{ResultTree, has_verdict}
use Rattle.js_tree.proofs.ChildTexts.{rest_of}
use Rattle.js_tree.proofs.FlatRows.{SomeTree, all_gone, root_row, rows_below, some_tree}
use Rattle.js_tree.specs.Rows.Marks.{left_trees, mark_of, marked}
use Rattle.js_tree.specs.Rows.Locations.{AreAt, HasRoomFor, IsBack, IsDown, instance_start, keyword_start}
use Rattle.js_tree.specs.Rows.Relative.{escaped, escaped_tree, escaped_unit}
use Rattle.js_tree.specs.Rows.RelativeState.{keyword_part, relative_row}
use Rattle.js_tree.specs.code.Differing.{AreTrees}
use Rattle.js_tree.specs.code.RelativeText.{AreRowsOfTree, AreRowsOfTrees, IsAbsolute}
use Rattle.js_tree.specs.declared.rows.locations.Locations.{Locations}
use Rattle.js_tree.specs.declared.rows.relative_rows.RelativeRow.{RelativeRow}
use Rattle.js_tree.specs.declared.rows.relative_rows.RelativeRows.{RelativeRows}
use Rattle.js_tree.proofs.RowsOfTrees.NextTrees.{EndsAt, tree_up_to}

-- ---- the trees of rows

pub none_of : (f : Forest OutputUnit) → escaped f ≡ empty → f ≡ empty
none_of empty e = refl
none_of (tree u below after) e = absurd cc

pub no_trees : (rows : List RelativeRow) (n : ℕ) (f : Forest OutputUnit) → AreRowsOfTrees (drop n rows) f
    → length rows ≤ n → f ≡ empty
no_trees rows n f e h = none_of f (all_gone relative_row rows n (escaped f) e h)

pub some_trees : (rows : List RelativeRow) (f : Forest OutputUnit) → AreRowsOfTrees rows f
    → 0 < length rows → SomeTree f
some_trees rows empty e h = let t = some_tree relative_row rows 0 empty e h in let n = t.is in absurd cc
some_trees rows (tree u below after) e h = record { unit = u; below = below; after = after; is = refl }

-- the tree whose rows come next, up to this end
pub record NextTree (rows : List RelativeRow) (n : ℕ) (f : Forest OutputUnit) (end : ℕ) : Type 0 where
  pub unit : OutputUnit
  pub below : Forest OutputUnit
  pub after : Forest OutputUnit
  pub is : f ≡ tree unit below after
  pub unit_is : (x : RelativeRow) → x ≡ get_or rows n x → (relative_row x).0 ≡ escaped_unit unit
  pub size : end ≡ n + suc (node_count (escaped below))
  pub fits : end ≤ length rows
  pub all : AreRowsOfTree (take (end - n) (drop n rows)) (record { root = unit; below = below })
  pub more : AreRowsOfTrees (drop end rows) after

same_unit : (u v : OutputUnit) (below f after g : Forest OutputUnit) → tree u below after ≡ tree v f g → u ≡ v
same_unit u v below f after g e = cc

same_below : (u v : OutputUnit) (below f after g : Forest OutputUnit) → tree u below after ≡ tree v f g → below ≡ f
same_below u v below f after g e = cc

same_after : (u v : OutputUnit) (below f after g : Forest OutputUnit) → tree u below after ≡ tree v f g → after ≡ g
same_after u v below f after g e = cc

pub next_tree : (rows : List RelativeRow) (n : ℕ) (f : Forest OutputUnit) (end : ℕ) → AreRowsOfTrees (drop n rows) f
    → n < length rows → EndsAt rows n end → NextTree rows n f end
next_tree rows n empty end e h ends = let t = tree_up_to rows n empty end e h ends in let d = t.is in absurd cc
next_tree rows n (tree u below after) end e h ends =
    let t = tree_up_to rows n (escaped (tree u below after)) end e h ends in
    let unit = same_unit t.unit (escaped_unit u) t.below (escaped below) t.after (escaped after) (sym t.is) in
    let forest = same_below t.unit (escaped_unit u) t.below (escaped below) t.after (escaped after) (sym t.is) in
    let rest = same_after t.unit (escaped_unit u) t.below (escaped below) t.after (escaped after) (sym t.is) in
    record {
      unit = u;
      below = below;
      after = after;
      is = refl;
      unit_is = λ x is. t.unit_is x is ∙ unit;
      size = t.size ∙ ap (λ g. n + suc (node_count g)) forest;
      fits = t.fits;
      all = t.all ∙ ap₂ (λ v g. flat_form (record { root = v; below = g })) unit forest;
      more = t.more ∙ ap flat_of rest;
    }

-- what `tree_end` needs
pub are_trees : (rows : List RelativeRow) (f : Forest OutputUnit) → AreRowsOfTrees rows f → AreTrees rows
are_trees rows f e = (escaped f, e)

-- ---- what has nothing to do with locations

pub count-escaped : (f : Forest OutputUnit) → node_count (escaped f) ≡ node_count f
count-escaped empty = refl
count-escaped (tree u below after) = ap₂ (λ n m. suc (n + m)) (count-escaped below) (count-escaped after)

agrees_escaped : (v : Bool) (u : OutputUnit) → has_verdict v (escaped_unit u) ≡ has_verdict v u
agrees_escaped true u = refl
agrees_escaped false u = refl

left_at : (b : Bool) (v : Bool) (u : OutputUnit) (below after : Forest OutputUnit) → has_verdict v u ≡ b
    → left_trees v (escaped below) ≡ left_trees v below → left_trees v (escaped after) ≡ left_trees v after
    → left_trees v (escaped (tree u below after)) ≡ left_trees v (tree u below after)
left_at true v u below after e p q = let a = agrees_escaped v u ∙ e in rw (a, e, p, q) refl
left_at false v u below after e p q = let a = agrees_escaped v u ∙ e in rw (a, e, q) refl

pub left-escaped : (v : Bool) (f : Forest OutputUnit) → left_trees v (escaped f) ≡ left_trees v f
left-escaped v empty = refl
left-escaped v (tree u below after) =
    left_at (has_verdict v u) v u below after refl (left-escaped v below) (left-escaped v after)

mark_at : (b : Bool) (v : Bool) (u : OutputUnit) (n : ℕ) → has_verdict v u ≡ b
    → mark_of v (escaped_unit u) n ≡ mark_of v u n
mark_at b v u n e = let a = agrees_escaped v u in rw a refl

pub marked-escaped : (v : Bool) (f : Forest OutputUnit) → marked v (escaped f) ≡ marked v f
marked-escaped v empty = refl
marked-escaped v (tree u below after) =
    ap₂ (λ m ms. m ∷ ms) (mark_at (has_verdict v u) v u (left_trees v (escaped below)) refl
    ∙ ap (mark_of v u) (left-escaped v below))
    (ap₂ (λ ms ns. ms ++ ns) (marked-escaped v below) (marked-escaped v after))

-- ---- locations

pub is_absolute : (x : RelativeRow) (u : OutputUnit) → (relative_row x).0 ≡ escaped_unit u → IsAbsolute x u.absolute
is_absolute x u e = ap (λ y. y.absolute) e

pub further : (found above added text more : List ℕ) → found ≡ above ++ added → above ≡ escape text
    → added ≡ escape more → found ≡ escape (text ++ more)
further found above added text more e a m =
    e ∙ (ap (λ l. l ++ added) a ∙ (ap (λ l. escape text ++ l) m ∙ sym (flat_map-append escape_byte text more)))

further_behind : (start found above added text more : List ℕ) → found ≡ above ++ added → above ≡ start ++ escape text
    → added ≡ escape more → found ≡ start ++ escape (text ++ more)
further_behind start found above added text more e a m =
    e ∙ (ap (λ l. l ++ added) a ∙ (append_assoc start (escape text) added
    ∙ ap (λ l. start ++ l) (ap (λ l. escape text ++ l) m ∙ sym (flat_map-append escape_byte text more))))

pub at_below : (old new : Locations) (x : RelativeRow) (u : OutputUnit) (keyword instance : List ℕ)
    → AreAt old keyword instance → IsDown old x new → (relative_row x).0 ≡ escaped_unit u
    → AreAt new (keyword ++ u.keyword) (instance ++ u.instance)
at_below old new x u keyword instance at d e = record {
  keyword_is = further_behind keyword_start new.keyword.items old.keyword.items (keyword_part x) keyword u.keyword
      d.longer_keyword at.keyword_is (ap (λ y. y.keyword) e);
  instance_is = further_behind instance_start new.instance.items old.instance.items x.instance.now instance u.instance
      d.longer_instance at.instance_is (ap (λ y. y.instance) e);
}

-- at the root of a tree, below a node with these locations
pub record Entered (rows : List RelativeRow) (t : ResultTree) (x : RelativeRow) (now : Locations) (keyword : List ℕ)
    (instance : List ℕ) : Type 0 where
  pub root : (relative_row x).0 ≡ escaped_unit t.root
  pub down : AreAt now (keyword ++ t.root.keyword) (instance ++ t.root.instance)
  pub absolute : IsAbsolute x t.root.absolute
  pub below : AreRowsOfTrees (take (length rows - 1) (drop 1 rows)) t.below

pub entered : (rows : List RelativeRow) (t : ResultTree) (x : RelativeRow) (old new : Locations) (keyword instance :
    List ℕ) → AreRowsOfTree rows t → x ≡ get_or rows 0 x → AreAt old keyword instance → IsDown old x new
    → Entered rows t x new keyword instance
entered rows t x old new keyword instance e is at d =
    let root = root_row relative_row rows (escaped_tree t) x e is in
    record {
      root = root;
      down = at_below old new x t.root keyword instance at d root;
      absolute = is_absolute x t.root root;
      below = ap (map relative_row) (rest_of rows) ∙ rows_below relative_row rows (escaped_tree t) e;
    }

pub still_at : (old new : Locations) (keyword instance : List ℕ) → AreAt old keyword instance → IsBack old new
    → AreAt new keyword instance
still_at old new keyword instance at b =
    record { keyword_is = b.same_keyword ∙ at.keyword_is; instance_is = b.same_instance ∙ at.instance_is }

pub at_root : (at : Locations) (rows : RelativeRows) → HasRoomFor at rows → AreAt at [] []
at_root at rows room = record {
  keyword_is = room.above_root.0 ∙ sym (append-nil keyword_start);
  instance_is = room.above_root.1 ∙ sym (append-nil instance_start);
}

pub still_at_root : (old new : Locations) (rows : RelativeRows) → HasRoomFor old rows → IsBack old new → AreAt new [] []
still_at_root old new rows room b = still_at old new [] [] (at_root old rows room) b
