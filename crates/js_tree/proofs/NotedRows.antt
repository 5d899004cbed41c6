-- The units with a note, of a tree and of its rows.
use Rattle.std.proofs.Common.{◌≡◌, Bool, true, false, if◌then◌else◌, List, [], ◌∷◌, ◌++◌, ℕ, ◌+◌, ◌<◌, ◌≤◌, length}
use Rattle.std.proofs.Common.{drop, get_or, map, codes, refl, ap, sym, ◌∙◌, append_assoc, append-nil}
use Rattle.js_doc.specs.Compact.{compact, compact_items}
use Rattle.js_doc.specs.Value.{items, list}
use Rattle.js_tree.specs.Flat.{flat_form, flat_of}
use Rattle.js_tree.specs.FlatState.{FlatRow, noted_of}
use Rattle.js_tree.specs.Form.{node_value}
use Rattle.js_tree.specs.Forest.{Forest, empty, forest_of, tree}
use Rattle.js_tree.specs.OutputUnit.{OutputUnit, noted}
use Rattle.js_tree.specs.Result.{ResultTree, kept, units}
use Rattle.js_tree.specs.Units.{units_below}
use Rattle.js_tree.specs.NodeText.{list_start, valid_text}
use Rattle.js_tree.proofs.KeptTree.{units-kept}
use Rattle.js_tree.proofs.NodeTexts.{list_text_is, units_value}
use Rattle.js_tree.proofs.Pieces.{seen_next, seen_all}

first : (b : Bool) (u : OutputUnit) (us vs : List OutputUnit)
    → (if b then u ∷ (us ++ vs) else (us ++ vs)) ≡ (if b then u ∷ us else us) ++ vs
first true u us vs = refl
first false u us vs = refl

noted_of-append : (xs ys : List FlatRow) → noted_of (xs ++ ys) ≡ noted_of xs ++ noted_of ys
noted_of-append [] ys = refl
noted_of-append (x ∷ xs) ys = rw (noted_of-append xs ys) (first (noted x.0) x.0 (noted_of xs) (noted_of ys))

noted_of-flat_of : (f : Forest OutputUnit) → noted_of (flat_of f) ≡ units_below noted f
noted_of-flat_of empty = refl
noted_of-flat_of (tree u below after) =
    rw (noted_of-append (flat_of below) (flat_of after), noted_of-flat_of below, noted_of-flat_of after)
    (first (noted u) u (units_below noted below) (units_below noted after))

pub noted_of-flat_form : (t : ResultTree) → noted_of (flat_form t) ≡ units t
noted_of-flat_form t = rw (noted_of-flat_of t.below) refl

-- the units of the only tree
pub units_of_one : (t : ResultTree) (ts : List ResultTree) (before : List OutputUnit) → ts ≡ t ∷ [] → before ≡ []
    → before ++ units_below noted (forest_of ts) ≡ units t
units_of_one t ts before e f = ap (λ us. us ++ units_below noted (forest_of ts)) f
    ∙ (ap (λ xs. units_below noted (forest_of xs)) e ∙ append-nil (units t))

-- the text of the list of units, in the pieces in which it is written from rows
pub units_in_parts : (rows : List FlatRow) (t : ResultTree) (valid : Bool) → rows ≡ flat_form t → valid ≡ t.root.valid
    → (list_start valid ++ codes "[")
    ++ (compact_items false (items (map (λ u. node_value u []) (noted_of rows))) ++ valid_text valid)
    ≡ compact (units_value t.root.valid (units t))
units_in_parts rows t valid e v =
    append_assoc (list_start valid) (codes "[")
    (compact_items false (items (map (λ u. node_value u []) (noted_of rows))) ++ valid_text valid)
    ∙ (list_text_is valid (list (items (map (λ u. node_value u []) (noted_of rows))))
    ∙ (ap (λ us. compact (units_value valid us)) (ap noted_of e ∙ noted_of-flat_form t)
    ∙ ap (λ b. compact (units_value b (units t))) v))

-- condensing leaves the units
pub noted_of-condensed : (old new : List FlatRow) (t : ResultTree) → old ≡ flat_form t → new ≡ flat_form (kept t)
    → noted_of new ≡ noted_of old
noted_of-condensed old new t is condensed =
    ap noted_of condensed ∙ (noted_of-flat_form (kept t)
    ∙ (units-kept noted t ∙ sym (ap noted_of is ∙ noted_of-flat_form t)))

-- ---- the units of the rows that are left, as nodes without children

leaves_at : (r : FlatRow) (rows : List FlatRow) (b : Bool) → noted r.0 ≡ b
    → map (λ u. node_value u []) (noted_of (r ∷ rows)) ≡ (if b then node_value r.0 []
    ∷ map (λ u. node_value u []) (noted_of rows) else map (λ u. node_value u []) (noted_of rows))
leaves_at r rows true e = rw e refl
leaves_at r rows false e = rw e refl

pub leaf_next : {R : Type 0} (row_of : R → FlatRow) (rows : List R) (i : ℕ) (x : R) → i < length rows
    → x ≡ get_or rows i x → noted (row_of x).0 ≡ true
    → map (λ u. node_value u []) (noted_of (map row_of (drop i rows)))
    ≡ node_value (row_of x).0 [] ∷ map (λ u. node_value u []) (noted_of (map row_of (drop (i + 1) rows)))
leaf_next row_of rows i x h is e = ap (λ rs. map (λ u. node_value u []) (noted_of rs)) (seen_next row_of rows i x h is)
    ∙ leaves_at (row_of x) (map row_of (drop (i + 1) rows)) true e

pub leaf_skipped : {R : Type 0} (row_of : R → FlatRow) (rows : List R) (i : ℕ) (x : R) → i < length rows
    → x ≡ get_or rows i x → noted (row_of x).0 ≡ false
    → map (λ u. node_value u []) (noted_of (map row_of (drop i rows)))
    ≡ map (λ u. node_value u []) (noted_of (map row_of (drop (i + 1) rows)))
leaf_skipped row_of rows i x h is e = ap (λ rs. map (λ u. node_value u []) (noted_of rs))
    (seen_next row_of rows i x h is) ∙ leaves_at (row_of x) (map row_of (drop (i + 1) rows)) false e

pub no_leaf : {R : Type 0} (row_of : R → FlatRow) (rows : List R) (i : ℕ) → length rows ≤ i
    → map (λ u. node_value u []) (noted_of (map row_of (drop i rows))) ≡ []
no_leaf row_of rows i h = ap (λ rs. map (λ u. node_value u []) (noted_of rs)) (seen_all row_of rows i h)
