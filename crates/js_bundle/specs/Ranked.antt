-- What a schema's keyword holds at a step, by its rank among all that the keyword holds (JSON Schema Core, sections 10
-- and 11).
use Rattle.std.specs.Prelude.{◌≡◌, ℕ, Bool, true, ◌&&◌, Some, slice_get}
use Rattle.js_doc.specs.Value.{Value}
use Rattle.js_doc.specs.Parts.{members_of}
use Rattle.js_keyword.specs.declared.keyword.Keyword.{Keyword}
use Rattle.js_bundle.specs.Keyword.{Text, argument}
use Rattle.js_keyword.specs.Keyword.{applies, subschemas, which_keyword}
use Rattle.js_bundle.specs.Place.{items_in}
use Rattle.js_bundle.specs.Schemas.{Step, Alone, Index, Name, fits}

-- the steps to the schemas that a keyword holds and applies
abbrev pub applies_at : Keyword → Step → Bool
applies_at keyword step = applies keyword && fits (subschemas keyword) step

-- this is the argument's schema at the step: the only one, the item of a list with the index, or the member of an
-- object with the name and this rank among all
abbrev pub IsAtRank : Step → ℕ → Value → Value → Type 0
IsAtRank Alone r l u = (l ≡ u) × (r ≡ 0)
IsAtRank (Index i) r l u = (slice_get (items_in l) i ≡ Some u) × (r ≡ i)
IsAtRank (Name n) r l u = slice_get (members_of l) r ≡ Some (n, u)

-- the keyword of this schema holds a schema at the step
abbrev pub HoldsAtRank : Value → Text → Step → ℕ → Value → Type 0
HoldsAtRank schema k step r u = (applies_at (which_keyword k) step ≡ true)
    × ((l : Value) × (argument k schema ≡ Some l) × IsAtRank step r l u)
