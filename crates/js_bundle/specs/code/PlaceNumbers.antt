-- How the code finds places: by their numbers in the list.
use Rattle.std.specs.Prelude.{ℕ, List, [], ◌∷◌, Bool, not, ◌||◌, is_some, Option, Some}
use Rattle.std.specs.Prelude.{None, option_and_then, slice_get}
use Rattle.std.specs.Borrow.{Bor}
use Rattle.std.specs.List.{position_from}
use Rattle.url.specs.Parts.{Parts}
use Rattle.js_doc.specs.Pointer.{Tokens}
use Rattle.js_doc.specs.PointerReading.{pointer_of}
use Rattle.js_bundle.specs.declared.index.place_by_uri.NameFault.{NameFault}
use Rattle.js_bundle.specs.declared.index.place_by_uri.NameFault.TheVariants as fault
use Rattle.js_bundle.specs.Keyword.{Text}
use Rattle.js_bundle.specs.Names.{names, is_pointer}
use Rattle.js_bundle.specs.Resource.{Site}

-- the number of the place that a URI names
abbrev pub number_named : List Site → Parts → Option ℕ
number_named all uri = position_from (names all uri) 0 all

-- what a list with an entry for each place has under the number of one
abbrev pub under_number : {A : Type 0} → List (Option A) → ℕ → Option A
under_number entries n = option_and_then (λ o. o) (slice_get entries n)

-- ---- what is read of a fragment

abbrev pub is_pointer_read : Text → Bool
is_pointer_read f = not (is_pointer f) || is_some (pointer_of f)

abbrev pub IfNotRead : NameFault → Type 0 → Type 0
IfNotRead fault.Memory P = Unit {0}
IfNotRead fault.NotRead P = P

-- ---- a keyword's name, if one is given, as the rest of a pointer

abbrev pub tokens_of : Option (Bor Text) → Tokens
tokens_of None = []
tokens_of (Some k) = k.now ∷ []
