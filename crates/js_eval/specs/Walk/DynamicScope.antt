-- The numbers of the schema resources of a path.
use Rattle.std.specs.Prelude.{◌≡◌, ℕ, List, [], ◌∷◌, ◌++◌, Bool, false, nat_eq, take, length}
use Rattle.std.specs.List.{dedup}

-- whether the last number is this one
abbrev pub ends_with : List ℕ → ℕ → Bool
ends_with [] n = false
ends_with (m ∷ []) n = nat_eq n m
ends_with (m ∷ k ∷ ms) n = ends_with (k ∷ ms) n

-- the resources of a path without consecutive repeats, before and after one more place, which is of this resource
pub record HasGrown (old : List ℕ) (resource : ℕ) (new : List ℕ) : Type 0 where
  pub scope : (each : List ℕ) → old ≡ dedup nat_eq each → new ≡ dedup nat_eq (each ++ resource ∷ [])
  pub kept : take (length old) new ≡ old
