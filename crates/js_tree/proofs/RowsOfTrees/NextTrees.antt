-- Rows whose trees are gone through one after the other, each up to where it ends.
use Rattle.std.proofs.Common.{◌≡◌, ℕ, zero, suc, ◌+◌, ◌-◌, ◌≤◌, ◌<◌, List, [], ◌∷◌, length, take}
use Rattle.std.proofs.Common.{drop, get_or, map, refl, ap, sym, subst, ◌∙◌, arith}
use Rattle.std.proofs.lemmas.List.{get_or_default}
use Rattle.js_tree.specs.Flat.{flat_form, flat_of}
use Rattle.js_tree.specs.Forest.{Forest, tree, node_count}
use Rattle.js_tree.specs.OutputUnit.{OutputUnit}
use Rattle.js_tree.proofs.FlatRows.{first_tree}
use Rattle.js_tree.proofs.Marks.{flat_form-flat_of}
use Rattle.js_tree.proofs.NextRows.{slice_size}
use Rattle.js_tree.specs.Rows.RelativeState.{relative_row}
use Rattle.js_tree.specs.declared.rows.relative_rows.RelativeRow.{RelativeRow}

-- where the tree ends whose root is the row n, by that row's size
abbrev pub EndsAt : List RelativeRow → ℕ → ℕ → Type 0
EndsAt rows n end = (x : RelativeRow) → x ≡ get_or rows n x → end ≡ n + x.size

pub record TreeUpTo (rows : List RelativeRow) (n : ℕ) (f : Forest OutputUnit) (end : ℕ) : Type 0 where
  pub unit : OutputUnit
  pub below : Forest OutputUnit
  pub after : Forest OutputUnit
  pub is : f ≡ tree unit below after
  pub unit_is : (x : RelativeRow) → x ≡ get_or rows n x → (relative_row x).0 ≡ unit
  pub size : end ≡ n + suc (node_count below)
  pub fits : end ≤ length rows
  -- the rows of the tree, and those after it
  pub all : map relative_row (take (end - n) (drop n rows)) ≡ flat_form (record { root = unit; below = below })
  pub more : map relative_row (drop end rows) ≡ flat_of after

some_row : (rows : List RelativeRow) (n : ℕ) → n < length rows → (x : RelativeRow) × (x ≡ get_or rows n x)
some_row [] n h = absurd (omega (arith, h))
some_row (r ∷ rows) zero h = (r, refl)
some_row (r ∷ rows) (suc n) h = some_row rows n (omega (arith, h))

tree_at : (rows : List RelativeRow) (n : ℕ) (f : Forest OutputUnit) (x : RelativeRow) → map relative_row (drop n rows)
    ≡ flat_of f → n < length rows → x ≡ get_or rows n x → TreeUpTo rows n f (n + x.size)
tree_at rows n f x e h is =
    let t = first_tree relative_row rows n f x e h is in
    record {
      unit = t.unit;
      below = t.below;
      after = t.after;
      is = t.is;
      unit_is = λ y at. ap (λ r. (relative_row r).0) (at ∙ (get_or_default rows n y x h ∙ sym is)) ∙ t.unit_is;
      size = ap (λ m. n + m) t.size;
      fits = t.fits;
      all = ap (map relative_row) (slice_size rows n x.size)
          ∙ (t.all ∙ sym (flat_form-flat_of (record { root = t.unit; below = t.below })));
      more = t.more;
    }

pub tree_up_to : (rows : List RelativeRow) (n : ℕ) (f : Forest OutputUnit) (end : ℕ)
    → map relative_row (drop n rows) ≡ flat_of f → n < length rows → EndsAt rows n end → TreeUpTo rows n f end
tree_up_to rows n f end e h ends =
    let x = some_row rows n h in
    subst (TreeUpTo rows n f) (sym (ends x.0 x.1)) (tree_at rows n f x.0 e h x.1)
