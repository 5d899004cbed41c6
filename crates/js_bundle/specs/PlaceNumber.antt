-- Places recorded by their numbers in scan order.
use Rattle.std.specs.Prelude.{ℕ, List, [], ◌∷◌, ◌++◌, Bool, Option, slice_get, nat_lt, option_to_list, length}
use Rattle.js_bundle.specs.Document.{Documents}
use Rattle.js_bundle.specs.Resource.{Site, sites}

-- the place that has the number
abbrev pub place_at : Documents → ℕ → Option Site
place_at documents n = slice_get (sites documents) n

abbrev pub is_place : Documents → ℕ → Bool
is_place documents n = nat_lt n (length (sites documents))

-- the places of a path
abbrev pub path_at : Documents → List ℕ → List Site
path_at documents [] = []
path_at documents (n ∷ path) = option_to_list (place_at documents n) ++ path_at documents path
