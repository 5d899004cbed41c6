-- Whether a schema's keyword holds a schema at a step, as a test, and which of the numbers that are kept is that
-- place's.
use Rattle.std.specs.Prelude.{◌≡◌, ℕ, ◌-◌, ◌<◌, ◌≤◌, ◌^◌, List, [], ◌∷◌, length, Bool, true, false, ◌&&◌, Option}
use Rattle.std.specs.Prelude.{Some, is_some, option_and_then, slice_get, if◌then◌else◌}
use Rattle.std.specs.List.Sorted.{IsPartitionPoint}
use Rattle.std.specs.Option.{option_map_or}
use Rattle.std.specs.Ordering.{is_lt}
use Rattle.js_doc.specs.Members.{name_cmp}
use Rattle.js_doc.specs.Pointer.{Tokens}
use Rattle.js_doc.specs.Value.{Value}
use Rattle.js_keyword.specs.contracts.keyword.KeywordPartialEq.TheImpl.{ghosts}
use Rattle.js_keyword.specs.declared.keyword.Keyword.{Keyword}
use Rattle.js_bundle.specs.code.Edges.{HeldNumbers}
use Rattle.js_bundle.specs.code.CheckedSite.{CheckedSite}
use Rattle.js_bundle.specs.Keyword.{Text, argument}
use Rattle.js_bundle.specs.Place.{holding, items_in}
use Rattle.js_bundle.specs.Schemas.{Step, Alone, Index, Name, fits}

-- the value itself, its item or its member
abbrev pub value_at_step : Step → Value → Option Value
value_at_step Alone value = Some value
value_at_step (Index i) value = slice_get (items_in value) i
value_at_step (Name n) value = argument n value

-- of the keyword's argument
abbrev pub held_in : Text → Step → Value → Option Value
held_in keyword step schema = option_and_then (value_at_step step) (argument keyword schema)

abbrev pub holds_at_step : Text → Step → Value → Bool
holds_at_step keyword step schema = fits (holding keyword) step && is_some (held_in keyword step schema)

-- an index is one of the code's
abbrev pub IsSmall : Step → Type 0
IsSmall (Index i) = i < 2 ^ 64
IsSmall _ = Unit {0}

-- ---- by number

-- the numbers that a keyword has
abbrev pub numbers_of_keyword : Keyword → List HeldNumbers → List ℕ
numbers_of_keyword keyword [] = []
numbers_of_keyword keyword (h ∷ hs) = if ghosts.eq h.0 keyword then h.1 else numbers_of_keyword keyword hs

-- the last token of a pointer comes before a name
abbrev pub ends_before : Text → Tokens → Bool
ends_before name tokens = option_map_or (λ t. is_lt (name_cmp t name)) (slice_get tokens (length tokens - 1)) false

-- so does that of the place with this number
abbrev pub stands_before : List CheckedSite → Text → ℕ → Bool
stands_before places name n = option_map_or (λ place. ends_before name place.pointer) (slice_get places n) false

-- where the names of the numbers' places ascend, that of the name is the first that doesn't come before it
abbrev pub IsRankOf : List CheckedSite → Text → List ℕ → ℕ → Type 0
IsRankOf places name numbers rank =
    (rank ≤ length numbers) × IsPartitionPoint (λ n. stands_before places name n ≡ true)
    (λ n. stands_before places name n ≡ false) numbers rank

-- the number has the step's rank among those that the keyword has
abbrev pub IsNumberAt : List CheckedSite → List ℕ → Step → ℕ → Type 0
IsNumberAt places numbers Alone n = slice_get numbers 0 ≡ Some n
IsNumberAt places numbers (Index i) n = slice_get numbers i ≡ Some n
IsNumberAt places numbers (Name name) n = (rank : ℕ) × (slice_get numbers rank ≡ Some n)
    × IsRankOf places name numbers rank
