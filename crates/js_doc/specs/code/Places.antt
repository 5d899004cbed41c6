-- Where a name stands among members whose names ascend, or where it would.
use Rattle.std.specs.Prelude.{◌≡◌, ℕ, suc, ◌<◌, List, [], ◌∷◌, length, slice_index_or}
use Rattle.std.specs.Ordering.{match_ordering}
use Rattle.std.specs.declared.alloc.Global.{Global}
use Rattle.std.specs.declared.cmp.Ordering.TheVariants.{Equal, Greater}
use Rattle.js_doc.specs.Members.{name_cmp}
use Rattle.js_doc.specs.declared.doc.Doc.{Doc}

-- how many names stand below k
abbrev pub rank : {A : Type 0} → List ℕ → List (List ℕ × A) → ℕ
rank k [] = 0
rank k (m ∷ ms) = match_ordering (name_cmp k m.0) 0 0 (suc (rank k ms))

-- how many names stand below k, or are k
abbrev pub rank_past : {A : Type 0} → List ℕ → List (List ℕ × A) → ℕ
rank_past k [] = 0
rank_past k (m ∷ ms) = match_ordering (name_cmp k m.0) 0 1 (suc (rank_past k ms))

-- no name is k, and i of them stand below it
abbrev pub GoesTo : {A : Type 0} → List ℕ → List (List ℕ × A) → ℕ → Type 0
GoesTo k ms i = (rank k ms ≡ i) × (rank_past k ms ≡ i)

-- k is the name at i
abbrev pub StandsAt : List ℕ → List (List ℕ × Doc) → ℕ → Type 0
StandsAt k es i =
    (i < length es) × ((d : List ℕ × Doc) → name_cmp k ((slice_index_or es i d).0) ≡ Equal)

-- k is above all names
abbrev pub IsAboveAll : {A : Type 0} → List ℕ → List (List ℕ × A) → Type 0
IsAboveAll k [] = Unit {0}
IsAboveAll k (m ∷ ms) = (name_cmp k m.0 ≡ Greater) × IsAboveAll k ms
