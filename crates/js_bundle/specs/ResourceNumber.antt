-- The numbers of resources, and dynamic references in a dynamic scope that is recorded by them (JSON Schema Core,
-- sections 7.1, 8.2.1 and 8.2.3.2).
use Rattle.std.specs.Prelude.{◌≡◌, ℕ, List, [], ◌∷◌, ◌++◌, length, Bool, Option, filter, flat_map}
use Rattle.std.specs.Prelude.{slice_get, nat_eq, Some, option_and_then, option_to_list}
use Rattle.std.specs.List.{dedup, position_from}
use Rattle.js_bundle.specs.Document.{Documents}
use Rattle.js_bundle.specs.Names.{same_tokens, stands_at}
use Rattle.js_bundle.specs.Resource.{Site, sites}
use Rattle.js_bundle.specs.PlaceNumber.{place_at, path_at}
use Rattle.js_bundle.specs.Target.{dynamic_ref_target}

-- the place is the root of its own resource
abbrev pub begins_resource : Site → Bool
begins_resource place = same_tokens place.pointer place.own.resource

-- the roots of all resources, in scan order
abbrev pub roots : List Site → List Site
roots all = filter begins_resource all

-- the number of a place's resource: how many roots stand before its own
abbrev pub number_of_resource : List Site → Site → Option ℕ
number_of_resource all place = position_from (stands_at place.document place.own.resource) 0 (roots all)

abbrev pub count_of_resources : List Site → ℕ
count_of_resources all = length (roots all)

-- ---- a dynamic scope by numbers

-- the roots of the resources with these numbers
abbrev pub roots_at : List Site → List ℕ → List Site
roots_at all [] = []
roots_at all (n ∷ numbers) = option_to_list (slice_get (roots all) n) ++ roots_at all numbers

-- What a place's `$dynamicRef` leads to: where its first target has the name by `$dynamicAnchor`, the first of the
-- numbers whose resource has it so gives the target.
abbrev pub dynamic_ref_target_in : List Site → List ℕ → Site → Option Site
dynamic_ref_target_in all numbers place = dynamic_ref_target all (roots_at all numbers) place

-- the numbers of the resources of a path, of equal neighbours one
abbrev pub numbers_on : List Site → List Site → List ℕ
numbers_on all path = dedup nat_eq (flat_map (λ place. option_to_list (number_of_resource all place)) path)

-- ---- the laws

-- each place has the number of its resource, and two have the same number exactly where they are of one resource: their
-- document is the same, and the root in it
pub record IsNumbering (all : List Site) : Type 0 where
  pub numbered : (n : ℕ) (place : Site) → slice_get all n ≡ Some place
      → (m : ℕ) × (number_of_resource all place ≡ Some m)
  pub apart : (n m : ℕ) (s t : Site) → slice_get all n ≡ Some s → slice_get all m ≡ Some t
      → number_of_resource all s ≡ number_of_resource all t
      → (s.document ≡ t.document) × (s.own.resource ≡ t.own.resource)
  pub together : (s t : Site) → s.document ≡ t.document → s.own.resource ≡ t.own.resource
      → number_of_resource all s ≡ number_of_resource all t

abbrev pub NumbersResources : Type 0
NumbersResources = (documents : Documents) → IsNumbering (sites documents)

-- the numbers of a path's resources lead to what the path leads to, whatever the path, and so to the place's own target
-- where the path ends in the place
abbrev pub ScopeByNumbers : Type 0
ScopeByNumbers =
    (documents : Documents) (path : List ℕ) (place : ℕ)
    → option_and_then (dynamic_ref_target_in (sites documents)
    (numbers_on (sites documents) (path_at documents path))) (place_at documents place)
    ≡ option_and_then (dynamic_ref_target (sites documents) (path_at documents path)) (place_at documents place)
