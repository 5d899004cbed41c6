-- The text of trees that have only what their locations add, below a node with given locations.
use Rattle.std.proofs.Common.{◌≡◌, ℕ, ◌≤◌, ◌<◌, Bool, true, false, List, [], ◌∷◌, ◌++◌, codes, length, take}
use Rattle.std.proofs.Common.{drop, Result, refl, ap, sym, subst, ◌∙◌, append_assoc, arith}
use Rattle.std.specs.List.{sum_by}
use Rattle.std.proofs.lemmas.List.Sums.{sum_by-take-drop, sum_by-take-le}
use Rattle.std.specs.Result.{IsErr}
use Rattle.js_doc.specs.BytesOut.{Progress, Stops}
use Rattle.js_doc.specs.Compact.{comma_if, compact}
use Rattle.js_doc.specs.Value.{Value, items, list}
use Rattle.js_tree.specs.Forest.{Forest, empty, tree}
use Rattle.js_tree.specs.Form.{node_value, node_values, verbose}
use Rattle.js_tree.specs.Note.{Note}
use Rattle.js_tree.specs.OutputUnit.{OutputUnit}
use Rattle.js_tree.specs.Result.{ResultTree}
use Rattle.js_tree.specs.Seen.{note_of}
use Rattle.js_tree.specs.NodeText.{annotation_part, beginning_text, end_text, error_part}
use Rattle.js_tree.specs.NodeText.{children_start, error_behind}
use Rattle.js_tree.proofs.NodeTexts.{annotations, errors, pieces_are}
use Rattle.js_tree.specs.Rows.Locations.{HasRoom, IsBack}
use Rattle.js_tree.specs.Rows.Relative.{escaped_unit, placed, placed_tree, placed_unit}
use Rattle.js_tree.specs.Rows.RelativeState.{keyword_part, relative_row}
use Rattle.js_tree.specs.code.Gathering.{Gathers, GathersOrStops}
use Rattle.js_tree.specs.code.Listing.{values_text}
use Rattle.js_tree.specs.code.RelativeText.{AreRowsOfTrees, after_children, before_children, opening_text, unit_there}
use Rattle.js_tree.specs.declared.rows.locations.Locations.{Locations}
use Rattle.js_tree.specs.declared.rows.relative_rows.RelativeRow.{RelativeRow}
use Rattle.js_tree.proofs.RowsOfTrees.EscapedRows.{no_trees, some_trees}
use Rattle.js_tree.proofs.WrittenRows.Gathering.{LeftToPass, same_to_pass, stopped_in, then_passed}
use Rattle.js_tree.proofs.WrittenRows.ListedUnits.{array_text}
use Rattle.js_tree.proofs.WrittenRows.QuotedParts.{beginning_in_parts}

-- ---- room for some of the rows

part_le : (f : RelativeRow → ℕ) (rows : List RelativeRow) (n k : ℕ) → sum_by f (take k (drop n rows)) ≤ sum_by f rows
part_le f rows n k = omega (arith, sum_by-take-le f (drop n rows) k, sum_by-take-drop f rows n)

pub room_for_part : (l m : Locations) (rows : List RelativeRow) (n k : ℕ) → HasRoom l rows → IsBack l m
    → HasRoom m (take k (drop n rows))
room_for_part l m rows n k h b = record {
  for_keyword =
      let e = ap length b.same_keyword in
      omega (arith, e, h.for_keyword, b.keyword_room, part_le (λ r. length (keyword_part r)) rows n k);
  for_instance =
      let e = ap length b.same_instance in
      omega (arith, e, h.for_instance, b.instance_room, part_le (λ r. length r.instance.now) rows n k);
}

pub room_still : (l m : Locations) (rows : List RelativeRow) → HasRoom l rows → IsBack l m → HasRoom m rows
room_still l m rows h b = record {
  for_keyword =
      let e = ap length b.same_keyword in
      omega (arith, e, h.for_keyword, b.keyword_room);
  for_instance =
      let e = ap length b.same_instance in
      omega (arith, e, h.for_instance, b.instance_room);
}

-- ---- the pieces of a node

pub noted_pieces : (later : Bool) (x : RelativeRow) (keyword absolute instance : List ℕ) (f : Forest OutputUnit)
    → let u = unit_there x keyword absolute instance in let children = node_values (placed keyword instance f) in
    opening_text later absolute ++ ((34 ∷ annotation_part u.note) ++ (annotations u.valid children
    ++ (error_part u.note ++ (errors u.valid children ++ end_text instance keyword u.valid))))
    ≡ comma_if later ++ compact (node_value u children)
noted_pieces later x keyword absolute instance f =
    let u = unit_there x keyword absolute instance in
    let children = node_values (placed keyword instance f) in
    let rest = annotations u.valid children
    ++ (error_part u.note ++ (errors u.valid children ++ end_text instance keyword u.valid)) in
    sym (append_assoc (opening_text later absolute) (34 ∷ annotation_part u.note) rest)
    ∙ (ap (λ l. l ++ rest) (beginning_in_parts later absolute u.note)
    ∙ (append_assoc (comma_if later) (beginning_text absolute u.note) rest
    ∙ ap (λ l. comma_if later ++ l) (pieces_are u children u.valid u.note refl refl)))

-- an array, and what follows it
array_then : (vs : List Value) (rest : List ℕ)
    → 91 ∷ (values_text false vs ++ 93 ∷ rest) ≡ compact (list (items vs)) ++ rest
array_then vs rest =
    ap (λ l. 91 ∷ l) (sym (append_assoc (values_text false vs) (93 ∷ []) rest))
    ∙ ap (λ l. l ++ rest) (sym (array_text vs))

children_then : (note : Note) (valid : Bool) (v : Value) (vs : List Value) (end : List ℕ) →
    children_start note valid ++ (values_text false (v ∷ vs) ++ 93 ∷ (error_behind note valid ++ end))
    ≡ annotations valid (v ∷ vs) ++ (error_part note ++ (errors valid (v ∷ vs) ++ end))
children_then note true v vs end =
    ap (λ l. codes ",\"annotations\":" ++ l) (array_then (v ∷ vs) (error_part note ++ end))
children_then note false v vs end =
    append_assoc (error_part note) (codes ",\"errors\":[") (values_text false (v ∷ vs) ++ 93 ∷ end)
    ∙ ap (λ l. error_part note ++ (codes ",\"errors\":" ++ l)) (array_then (v ∷ vs) end)

-- a node with children
pub parent_pieces : (later : Bool) (x : RelativeRow) (keyword absolute instance : List ℕ) (rows : List RelativeRow)
    (f : Forest OutputUnit) → AreRowsOfTrees rows f → 0 < length rows →
    let u = unit_there x keyword absolute instance in
    before_children later absolute u.note u.valid ++ (values_text false (node_values (placed keyword instance f))
    ++ after_children instance keyword u.note u.valid)
    ≡ comma_if later ++ compact (node_value u (node_values (placed keyword instance f)))
parent_pieces later x keyword absolute instance rows empty are some = let n =
    (some_trees rows empty are some).is in absurd cc
parent_pieces later x keyword absolute instance rows (tree w below after) are some =
    let u = unit_there x keyword absolute instance in
    let v = node_value (placed_unit keyword instance w)
    (node_values (placed (keyword ++ w.keyword) (instance ++ w.instance) below)) in
    let vs = node_values (placed keyword instance after) in
    let rest = values_text false (v ∷ vs) ++ after_children instance keyword u.note u.valid in
    append_assoc (opening_text later absolute) ((34 ∷ annotation_part u.note) ++ children_start u.note u.valid) rest
    ∙ ap (λ l. opening_text later absolute ++ l)
    (append_assoc (34 ∷ annotation_part u.note) (children_start u.note u.valid) rest
    ∙ ap (λ l. (34 ∷ annotation_part u.note) ++ l)
    (children_then u.note u.valid v vs (end_text instance keyword u.valid)))
    ∙ noted_pieces later x keyword absolute instance (tree w below after)

-- ---- as it is gathered: what stands before the children, the children, and what stands after them

module _ (later : Bool) (x : RelativeRow) (keyword absolute instance : List ℕ) (rows : List RelativeRow)
    (f : Forest OutputUnit) (are : AreRowsOfTrees rows f) (some : 0 < length rows) where
  abbrev front : List ℕ
  front = before_children later absolute (note_of x.note) x.valid

  abbrev children : List ℕ
  children = values_text false (node_values (placed keyword instance f))

  abbrev back : List ℕ
  back = after_children instance keyword (note_of x.note) x.valid

  abbrev ParentGathers : {T E : Type 0} → Progress → Progress → List ℕ → List ℕ → Result T E → Type 0
  ParentGathers a b p q r =
      GathersOrStops a b p q (comma_if later
      ++ compact (node_value (unit_there x keyword absolute instance) (node_values (placed keyword instance f)))) r

  all_pieces : {T E : Type 0} (a b : Progress) (p q : List ℕ) (r : Result T E)
      → GathersOrStops a b p q (front ++ (children ++ back)) r → ParentGathers a b p q r
  all_pieces a b p q r g =
      subst (λ l. GathersOrStops a b p q l r) (parent_pieces later x keyword absolute instance rows f are some) g

  pub stops_in_front : {T E : Type 0} (a b : Progress) (p q : List ℕ) (r : Result T E) → IsErr r
      → Stops a b (p ++ front) → ParentGathers a b p q r
  stops_in_front a b p q r e s = all_pieces a b p q r (stopped_in a b p q front (children ++ back) r e s)

  pub stops_in_children : {T E : Type 0} (a b c : Progress) (p q s : List ℕ) (r : Result T E) → Gathers a b p q front
      → IsErr r → Stops b c (q ++ children) → ParentGathers a c p s r
  stops_in_children a b c p q s r g e h =
      all_pieces a c p s r (then_passed a b c p q s front (children ++ back) r g
      (stopped_in b c q s children back r e h))

  pub gathers_whole : {T E : Type 0} (a b c d : Progress) (p q s z : List ℕ) (r : Result T E) → Gathers a b p q front
      → Gathers b c q s children → GathersOrStops c d s z back r → ParentGathers a d p z r
  gathers_whole a b c d p q s z r g h k =
      all_pieces a d p z r (then_passed a b d p q z front (children ++ back) r g
      (then_passed b c d q s z children back r h k))

pub without_trees : (later : Bool) (u : OutputUnit) (keyword instance : List ℕ) (rows : List RelativeRow)
    (f : Forest OutputUnit) → length rows ≡ 0 → AreRowsOfTrees rows f
    → comma_if later ++ compact (node_value u [])
    ≡ comma_if later ++ compact (node_value u (node_values (placed keyword instance f)))
without_trees later u keyword instance rows f h are =
    ap (λ g. comma_if later ++ compact (node_value u (node_values (placed keyword instance g))))
    (sym (no_trees rows 0 f are (omega (arith, h))))

-- the unit of a tree's root
pub unit_is_there : (k i : List ℕ) (x : RelativeRow) (u : OutputUnit) → (relative_row x).0 ≡ escaped_unit u
    → unit_there x (k ++ u.keyword) u.absolute (i ++ u.instance) ≡ placed_unit k i u
unit_is_there k i x u e =
    ap (λ v. record
    { valid = v.valid; keyword = k ++ u.keyword; absolute = u.absolute; instance = i ++ u.instance; note = v.note })
    e

-- its node
pub root_there : (later : Bool) (k i : List ℕ) (x : RelativeRow) (t : ResultTree)
    → (relative_row x).0 ≡ escaped_unit t.root →
    comma_if later ++ compact (node_value (unit_there x (k ++ t.root.keyword) t.root.absolute (i ++ t.root.instance))
    (node_values (placed (k ++ t.root.keyword) (i ++ t.root.instance) t.below)))
    ≡ comma_if later ++ compact (verbose (placed_tree k i t))
root_there later k i x t e =
    ap (λ u. comma_if later ++ compact (node_value u
    (node_values (placed (k ++ t.root.keyword) (i ++ t.root.instance) t.below)))) (unit_is_there k i x t.root e)

pub stays_there : (l : Locations) → IsBack l l
stays_there l =
    record { same_keyword = refl; same_instance = refl; keyword_room = omega arith; instance_room = omega arith }

-- ---- tree by tree

tree_left : (later : Bool) (k i : List ℕ) (f : Forest OutputUnit) (u : OutputUnit) (below after : Forest OutputUnit)
    → f ≡ tree u below after → values_text later (node_values (placed k i f)) ≡ (comma_if later ++ compact (verbose
    (placed_tree k i (record { root = u; below = below })))) ++ values_text true (node_values (placed k i after))
tree_left later k i f u below after e =
    ap (λ g. values_text later (node_values (placed k i g))) e
    ∙ sym (append_assoc (comma_if later) (compact (verbose (placed_tree k i (record { root = u; below = below }))))
    (values_text true (node_values (placed k i after))))

-- the first of them comes next
pub tree_next : (a b : Progress) (p q : List ℕ) (later : Bool) (k i : List ℕ) (f : Forest OutputUnit) (u : OutputUnit)
    (below after : Forest OutputUnit) (all : List ℕ) → LeftToPass a b p q (values_text later
    (node_values (placed k i f))) all → f ≡ tree u below after → LeftToPass a b p q ((comma_if later ++ compact (verbose
    (placed_tree k i (record { root = u; below = below })))) ++ values_text true (node_values (placed k i after))) all
tree_next a b p q later k i f u below after all w e =
    same_to_pass a b p q _ _ all w (tree_left later k i f u below after e)

pub back_again : (l m n : Locations) → IsBack l m → IsBack m n → IsBack l n
back_again l m n b c = record {
  same_keyword = c.same_keyword ∙ b.same_keyword;
  same_instance = c.same_instance ∙ b.same_instance;
  keyword_room = omega (arith, b.keyword_room, c.keyword_room);
  instance_room = omega (arith, b.instance_room, c.instance_room);
}
