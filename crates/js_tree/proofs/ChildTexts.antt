-- The arrays of children, of trees and of rows.
use Rattle.std.proofs.Common.{◌≡◌, ℕ, Bool, false, suc, ◌+◌, ◌-◌, ◌<◌, List, [], ◌∷◌, ◌++◌, length}
use Rattle.std.proofs.Common.{take, drop, map, get_or, refl, ap, sym, ◌∙◌, arith}
use Rattle.std.proofs.lemmas.List.{drop_more}
use Rattle.js_doc.specs.BytesOut.{Progress}
use Rattle.js_doc.specs.Compact.{compact, compact_items}
use Rattle.js_doc.specs.Value.{items}
use Rattle.js_doc.proofs.BytesGone.{Wrote}
use Rattle.js_tree.specs.Flat.{flat_form, flat_of}
use Rattle.js_tree.specs.FlatState.{FlatRow}
use Rattle.js_tree.specs.Forest.{Forest, empty, tree, forest_of}
use Rattle.js_tree.specs.Form.{node_value, node_values, verbose}
use Rattle.js_tree.specs.NodeText.{back_text, front_text}
use Rattle.js_tree.specs.OutputUnit.{OutputUnit}
use Rattle.js_tree.specs.Result.{ResultTree}
use Rattle.js_tree.proofs.FlatRows.{root_row, rows_below}
use Rattle.js_tree.proofs.Marks.{take_all}
use Rattle.js_tree.proofs.NodeTexts.{parent_text_is}

parent_text : (u : OutputUnit) (ts : List ResultTree) → 0 < length ts
    → front_text u ++ (compact_items false (items (node_values (forest_of ts))) ++ back_text u)
    ≡ compact (node_value u (node_values (forest_of ts)))
parent_text u [] h = absurd (omega (arith, h))
parent_text u (t ∷ ts) h = parent_text_is u _ _

-- the text of a tree, in the pieces in which it is written from its children
pub tree_parent_text : (u : OutputUnit) (ts children : List ResultTree) (t : ResultTree) → 0 < length ts → ts ≡ children
    → record { root = u; below = forest_of children } ≡ t
    → front_text u ++ (compact_items false (items (node_values (forest_of ts))) ++ back_text u) ≡ compact (verbose t)
tree_parent_text u ts children t h e is =
    parent_text u ts h
    ∙ (ap (λ us. compact (node_value u (node_values (forest_of us)))) e ∙ ap (λ t. compact (verbose t)) is)

pub leaf_text : (u : OutputUnit) (ts : List ResultTree) → length ts ≡ 0
    → compact (node_value u []) ≡ compact (node_value u (node_values (forest_of ts)))
leaf_text u [] h = refl
leaf_text u (t ∷ ts) h = absurd (omega (arith, h))

pub tree_next : (ts : List ResultTree) (i : ℕ) (t : ResultTree) → i < length ts → t ≡ get_or ts i t
    → node_values (forest_of (drop i ts)) ≡ verbose t ∷ node_values (forest_of (drop (i + 1) ts))
tree_next ts i t h e = ap (λ us. node_values (forest_of us))
    (drop_more ts i t h ∙ ap (λ u. u ∷ drop (i + 1) ts) (sym e))

-- ---- of rows

-- with the trees that are left, the array of all is written
abbrev pub WroteTrees : Progress → Progress → Bool → Forest OutputUnit → Forest OutputUnit → Type 0
WroteTrees old new later f left =
    Wrote old new (compact_items later (items (node_values left))) (compact_items false (items (node_values f)))

pub row_parent_text : {R : Type 0} (row_of : R → FlatRow) (u : OutputUnit) (rows : List R) (f : Forest OutputUnit)
    → 0 < length rows → map row_of rows ≡ flat_of f → front_text u
    ++ (compact_items false (items (node_values f)) ++ back_text u) ≡ compact (node_value u (node_values f))
row_parent_text row_of u [] f h e = absurd (omega (arith, h))
row_parent_text row_of u (r ∷ rows) empty h e = absurd cc
row_parent_text row_of u (r ∷ rows) (tree w below after) h e = parent_text_is u _ _

pub row_leaf_text : {R : Type 0} (row_of : R → FlatRow) (u : OutputUnit) (rows : List R) (f : Forest OutputUnit)
    → length rows ≡ 0 → map row_of rows ≡ flat_of f → compact (node_value u []) ≡ compact (node_value u (node_values f))
row_leaf_text row_of u [] empty h e = refl
row_leaf_text row_of u [] (tree w below after) h e = absurd cc
row_leaf_text row_of u (r ∷ rows) f h e = absurd (omega (arith, h))

pub rest_of : {R : Type 0} (rows : List R) → take (length rows - 1) (drop 1 rows) ≡ drop 1 rows
rest_of [] = refl
rest_of (r ∷ rows) = take_all (suc (length rows) - 1) rows (omega arith)

module _ {R : Type 0} (row_of : R → FlatRow) where
  pub rest_below : (rows : List R) (t : ResultTree) → map row_of rows ≡ flat_form t
      → map row_of (take (length rows - 1) (drop 1 rows)) ≡ flat_of t.below
  rest_below rows t e = ap (map row_of) (rest_of rows) ∙ rows_below row_of rows t e

  -- the text of a tree, in the pieces in which it is written from its rows
  pub rows_parent_text : (rows : List R) (t : ResultTree) (x : R) → map row_of rows ≡ flat_form t → x ≡ get_or rows 0 x
      → 0 < length (take (length rows - 1) (drop 1 rows))
      → front_text (row_of x).0 ++ (compact_items false (items (node_values t.below)) ++ back_text (row_of x).0)
      ≡ compact (verbose t)
  rows_parent_text rows t x e is h =
      row_parent_text row_of (row_of x).0 _ t.below h (rest_below rows t e)
      ∙ ap (λ u. compact (node_value u (node_values t.below))) (root_row row_of rows t x e is)
