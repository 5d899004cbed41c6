-- Members as a finite map: each name once, in ascending order of its bytes (JSON Schema Core, section 4.2.1).
use Rattle.std.specs.Prelude.{◌≡◌, ℕ, List, [], ◌∷◌, Bool, Option, Some, None, is_some}
use Rattle.std.specs.Ordering.{nat_cmp, match_ordering}
use Rattle.std.specs.Cmp.Lexicographic.{slice_cmp}
use Rattle.std.specs.declared.cmp.Ordering.{Ordering}
use Rattle.std.specs.declared.cmp.Ordering.TheVariants.{Less}
use Rattle.js_doc.specs.Value.{Value, list, object, Items, no_items, item, Members, no_members, member}

-- names are compared byte by byte
abbrev pub name_cmp : List ℕ → List ℕ → Ordering
name_cmp = slice_cmp nat_cmp

abbrev pub get : {A : Type 0} → List ℕ → List (List ℕ × A) → Option A
get k [] = None
get k (m ∷ ms) = match_ordering (name_cmp k m.0) (get k ms) (Some m.1) (get k ms)

-- the name is one of these members'
abbrev pub has_name : {A : Type 0} → List ℕ → List (List ℕ × A) → Bool
has_name k ms = is_some (get k ms)

-- the members with v under k: a value that stood there is replaced
abbrev pub put : {A : Type 0} → List ℕ → A → List (List ℕ × A) → List (List ℕ × A)
put k v [] = (k, v) ∷ []
put k v (m ∷ ms) = match_ordering (name_cmp k m.0) ((k, v) ∷ m ∷ ms) ((m.0, v) ∷ ms) (m ∷ put k v ms)

-- ---- the names ascend strictly, so each stands once

abbrev pub IsBelowHead : {A : Type 0} → List ℕ → List (List ℕ × A) → Type 0
IsBelowHead k [] = Unit {0}
IsBelowHead k (m ∷ ms) = name_cmp k m.0 ≡ Less

abbrev pub IsAscending : {A : Type 0} → List (List ℕ × A) → Type 0
IsAscending [] = Unit {0}
IsAscending (m ∷ ms) = IsBelowHead m.0 ms × IsAscending ms

-- ---- so do those of each object in a value

abbrev pub IsBelowFirst : List ℕ → Members → Type 0
IsBelowFirst k no_members = Unit {0}
IsBelowFirst k (member l v ms) = name_cmp k l ≡ Less

abbrev mutual
  pub NamesAscend : Value → Type 0
  NamesAscend (list vs) = NamesAscendInItems vs
  NamesAscend (object ms) = NamesAscendInMembers ms
  NamesAscend _ = Unit {0}

  pub NamesAscendInItems : Items → Type 0
  NamesAscendInItems no_items = Unit {0}
  NamesAscendInItems (item v vs) = NamesAscend v × NamesAscendInItems vs

  pub NamesAscendInMembers : Members → Type 0
  NamesAscendInMembers no_members = Unit {0}
  NamesAscendInMembers (member k v ms) = IsBelowFirst k ms × NamesAscend v × NamesAscendInMembers ms
