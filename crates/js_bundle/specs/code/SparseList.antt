-- What is kept of places under their numbers.
use Rattle.std.specs.Prelude.{◌≡◌, ℕ, ◌==◌, List, Option, option_and_then, slice_get, if◌then◌else◌}
use Rattle.js_bundle.specs.code.PlaceNumbers.{under_number}
use Rattle.js_bundle.specs.Resource.{Site}

-- of each place what is defined of it
pub record IsSparseList {A : Type 0} (kept : ℕ → Option A) (entry : Site → Option A) (places : List Site) : Type 0 where
  pub recorded : (n : ℕ) → kept n ≡ option_and_then entry (slice_get places n)

pub record HaveSameEntries {A : Type 0} (old new : List (Option A)) : Type 0 where
  pub alike : (n : ℕ) → under_number new n ≡ under_number old n

-- the entry of the place with this number, which comes next
pub record HasEntryAdded {A : Type 0} (old : ℕ → Option A) (number : ℕ) (entry : Option A) (new : ℕ
    → Option A) : Type 0 where
  pub recorded : (n : ℕ) → new n ≡ (if n == number then entry else old n)
