-- Lists of which each place has a part, one after another.
use Rattle.std.specs.Prelude.{◌≡◌, ℕ, ◌+◌, ◌≤◌, List, [], ◌∷◌, length, slice_range, flat_map}
use Rattle.js_bundle.specs.Resource.{Site}

-- where each part ends, if the first begins so
abbrev pub ends_from : {A : Type 0} → (Site → List A) → ℕ → List Site → List ℕ
ends_from part n [] = []
ends_from part n (place ∷ places) = (n + length (part place)) ∷ ends_from part (n + length (part place)) places

pub record ArePartsByPlace {A : Type 0} (part : Site
    → List A) (places : List Site) (listed : List A) (ending : List ℕ) : Type 0 where
  pub all : listed ≡ flat_map part places
  pub ends : ending ≡ ends_from part 0 places

-- it is what stands from there up to there, if they are in the list
abbrev pub IsPart : {A : Type 0} → List A → ℕ → ℕ → List A → Type 0
IsPart all begin end part = begin ≤ end → end ≤ length all → part ≡ slice_range all begin end
