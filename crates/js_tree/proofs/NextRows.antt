-- Rows whose trees are gone through one after the other, each taken out of all rows as a slice.
use Rattle.std.proofs.Common.{◌≡◌, ℕ, ◌+◌, ◌-◌, ◌≤◌, ◌<◌, List, length, take, drop, get_or, map, ap, sym, ◌∙◌, arith}
use Rattle.js_tree.specs.Flat.{flat_form, flat_of}
use Rattle.js_tree.specs.FlatState.{FlatRow}
use Rattle.js_tree.specs.Forest.{Forest}
use Rattle.js_tree.specs.OutputUnit.{OutputUnit}
use Rattle.js_tree.proofs.FlatRows.{FirstTree, first_tree}
use Rattle.js_tree.proofs.Marks.{flat_form-flat_of}

pub slice_size : {R : Type 0} (rows : List R) (n size : ℕ) → take (n + size - n) (drop n rows) ≡ take size (drop n rows)
slice_size rows n size = let same : n + size - n ≡ size = omega arith in ap (λ k. take k (drop n rows)) same

pub slice_of_first : {R : Type 0} (row_of : R → FlatRow) (rows : List R) (n : ℕ) (f : Forest OutputUnit) (x : R)
    (t : FirstTree row_of rows n f x)
    → map row_of (take (n + (row_of x).1 - n) (drop n rows)) ≡ flat_form (record { root = t.unit; below = t.below })
slice_of_first row_of rows n f x t =
    ap (map row_of) (slice_size rows n (row_of x).1)
    ∙ (t.all ∙ sym (flat_form-flat_of (record { root = t.unit; below = t.below })))

-- the trees from the row n on are left, and with them what is kept of all trees
abbrev pub TreesLeft : {R : Type 0} → (R → FlatRow) → List R → ℕ
    → (Forest OutputUnit → Forest OutputUnit → Type 0) → Type 0
TreesLeft row_of rows n Kept =
    (n ≤ length rows)
    × ((f : Forest OutputUnit) → map row_of rows ≡ flat_of f
    → (left : Forest OutputUnit) × (map row_of (drop n rows) ≡ flat_of left) × Kept f left)

-- without the next of them
pub next_done : {R : Type 0} (row_of : R → FlatRow) (rows : List R) (n : ℕ) (x : R) (Kept Now : Forest OutputUnit
    → Forest OutputUnit → Type 0)
    → (f : Forest OutputUnit) × (map row_of rows ≡ flat_of f) → TreesLeft row_of rows n Kept
    → n < length rows → x ≡ get_or rows n x
    → ((f left : Forest OutputUnit) → (t : FirstTree row_of rows n left x) → Kept f left → Now f t.after)
    → TreesLeft row_of rows (n + (row_of x).1) Now
next_done row_of rows n x Kept Now some w h is done =
    let here = w.1 some.0 some.1 in (
      (first_tree row_of rows n here.0 x here.1 h is).fits,
      λ f e.
          let there = w.1 f e in
          let t = first_tree row_of rows n there.0 x there.1 h is in
          (t.after, t.more, done f there.0 t there.2),
    )
