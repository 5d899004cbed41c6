-- The row of the root, put back where it went with the others.
use Rattle.std.specs.Prelude.{◌≡◌, ◌≢◌, ℕ, Bool, true, false, if◌then◌else◌, List, [], ◌∷◌, ◌++◌, length, map, refl}
use Rattle.std.proofs.Common.{arith, ap, sym, ◌∙◌, append-nil}
use Rattle.json.specs.Print.{escape}
use Rattle.js_tree.specs.Events.{closing, opening}
use Rattle.js_tree.specs.FlatState.{FlatRow}
use Rattle.js_tree.specs.Forest.{empty}
use Rattle.js_tree.specs.Note.{Note, silent}
use Rattle.js_tree.specs.OutputUnit.{OutputUnit}
use Rattle.js_tree.specs.Result.{ResultTree}
use Rattle.js_tree.specs.Trimmed.{is_silent_leaf, trimmed, trimmed_tree}
use Rattle.js_tree.proofs.Trimming.{silent_leaf}
use Rattle.js_tree.specs.Rows.RelativeState.{AreRowsOf, AreTrimmedOf, IsRootAt, relative_after, relative_row}
use Rattle.js_tree.specs.Rows.RelativeState.{relative_state, rows_of_tree, whole_relative}
use Rattle.js_tree.specs.declared.rows.relative_rows.RelativeRow.{RelativeRow}
use Rattle.js_tree.specs.declared.rows.relative_rows.RelativeRows.{RelativeRows}
use Rattle.js_tree.proofs.RowsOfTrees.RelativeRowsCollected.{at}
use Rattle.js_tree.proofs.RowsOfTrees.TrimmedRowsCollected.{tree_located}

-- ---- a root alone, without a note

abbrev unit_with : Bool → List ℕ → List ℕ → List ℕ → Note → OutputUnit
unit_with valid keyword absolute instance note =
    record { valid = valid; keyword = keyword; absolute = absolute; instance = instance; note = note }

root_is : (u : OutputUnit) (absolute : List ℕ) (valid : Bool) → IsRootAt absolute valid u → u.note ≡ silent
    → u ≡ unit_with valid [] absolute [] silent
root_is u absolute valid h n =
    ap (λ z. unit_with u.valid z u.absolute u.instance u.note) h.0
    ∙ (ap (λ z. unit_with u.valid [] u.absolute z u.note) h.1
    ∙ (ap (λ z. unit_with u.valid [] z [] u.note) h.2
    ∙ (ap (λ z. unit_with z [] absolute [] u.note) h.3
    ∙ ap (λ z. unit_with valid [] absolute [] z) n)))

-- ---- whether the root is left

-- no rows, and a silent root with nothing below it; or the trimmed tree's rows
abbrev IsEither : List FlatRow → ResultTree → Bool → Type 0
IsEither rows t b = (rows ≡ (if b then [] else rows_of_tree (trimmed_tree t)))
    × (is_silent_leaf t.root (trimmed t.below) ≡ b)

left_is : (rows : List FlatRow) (t : ResultTree) (b : Bool) → rows ≢ [] → IsEither rows t b
    → rows ≡ rows_of_tree (trimmed_tree t)
left_is rows t true there e = absurd (there e.0)
left_is rows t false there e = e.0

gone_is : (rows : List FlatRow) (t : ResultTree) (b : Bool) → rows ≡ [] → IsEither rows t b
    → is_silent_leaf t.root (trimmed t.below) ≡ true
gone_is rows t true none e = e.1
gone_is rows t false none e = let x = sym none ∙ e.0 in absurd cc

rows_there : (rows : List RelativeRow) → length rows ≢ 0 → map relative_row rows ≢ []
rows_there [] there = absurd (there refl)
rows_there (r ∷ rows) there = λ e. cc

no_rows : (rows : List RelativeRow) → length rows ≡ 0 → map relative_row rows ≡ []
no_rows [] none = refl
no_rows (r ∷ rows) none = absurd (omega (arith, none))

-- the root is left
pub root_left : (rows : RelativeRows) (t : ResultTree) → length rows.rows.items ≢ 0 → AreTrimmedOf rows t
    → AreRowsOf rows (trimmed_tree t)
root_left rows t there h = record {
  rows_are =
      let all : (relative_state rows).rows ≡ rows_of_tree (trimmed_tree t) =
      left_is (map relative_row rows.rows.items) t (is_silent_leaf t.root (trimmed t.below))
      (rows_there rows.rows.items there) (ap (λ s. s.rows) h.trimmed_are, refl) in
      ap (λ zs. at rows.trims zs (relative_state rows).nodes) all
      ∙ ap (λ os. at rows.trims (rows_of_tree (trimmed_tree t)) os) (ap (λ s. s.nodes) h.trimmed_are);
  located = tree_located t h.located;
}

-- the root comes and goes where there are no rows
root_alone : (absolute : List ℕ) (valid : Bool)
    → relative_after (relative_after (at false [] []) (opening [] (absolute ++ []) [])) (closing valid silent)
    ≡ whole_relative false (record { root = unit_with valid [] absolute [] silent; below = empty })
root_alone absolute valid =
    ap (λ text. at false ((unit_with valid [] (escape text) [] silent, 1) ∷ []) []) (append-nil absolute)

pub root_back : (old mid new : RelativeRows) (absolute : List ℕ) (valid : Bool) (t : ResultTree)
    → length old.rows.items ≡ 0 → AreTrimmedOf old t → IsRootAt absolute valid t.root
    → relative_state mid
    ≡ relative_after (at false (map relative_row old.rows.items) (relative_state old).nodes) (opening []
    (absolute ++ []) []) → relative_state new ≡ relative_after (relative_state mid) (closing valid silent)
    → AreRowsOf new (trimmed_tree t)
root_back old mid new absolute valid t none h r opened closed =
    let rows : map relative_row old.rows.items ≡ [] = no_rows old.rows.items none in
    let nodes : (relative_state old).nodes ≡ [] = ap (λ s. s.nodes) h.trimmed_are in
    let leaf = silent_leaf t.root (trimmed t.below) (gone_is (map relative_row old.rows.items) t
    (is_silent_leaf t.root (trimmed t.below)) rows (ap (λ s. s.rows) h.trimmed_are, refl)) in
    let own : trimmed_tree t ≡ record { root = unit_with valid [] absolute [] silent; below = empty } =
    ap (λ f. record { root = t.root; below = f }) leaf.0
    ∙ ap (λ u. record { root = u; below = empty }) (root_is t.root absolute valid r leaf.1) in
    let all : relative_state new ≡ whole_relative false (trimmed_tree t) =
    closed
    ∙ (ap (λ s. relative_after s (closing valid silent)) opened
    ∙ (ap (λ zs. relative_after (relative_after (at false zs (relative_state old).nodes)
    (opening [] (absolute ++ []) [])) (closing valid silent)) rows
    ∙ (ap (λ os. relative_after (relative_after (at false [] os) (opening [] (absolute ++ []) []))
    (closing valid silent)) nodes
    ∙ (root_alone absolute valid ∙ ap (whole_relative false) (sym own))))) in
    record {
      rows_are = all ∙ ap (λ trims. whole_relative trims (trimmed_tree t)) (sym (ap (λ s. s.trims) all));
      located = tree_located t h.located;
    }
