-- Texts in which no object has a name twice.
use Rattle.std.specs.Prelude.{ℕ, List, [], ◌∷◌, Bool, true, not, ◌&&◌, bytes_eq}
use Rattle.std.specs.List.{list_any}
use Rattle.json.specs.Json.{Json, array, object, Items, no_items, item, Members, no_members, member}
use Rattle.json.specs.Strict.{keys}

abbrev pub are_distinct : List (List ℕ) → Bool
are_distinct [] = true
are_distinct (k ∷ ks) = not (list_any (bytes_eq k) ks) && are_distinct ks

abbrev mutual
  pub has_names_once : Json → Bool
  has_names_once (array js) = items_have_names_once js
  has_names_once (object ms) = are_distinct (keys ms) && members_have_names_once ms
  has_names_once j = true

  pub items_have_names_once : Items → Bool
  items_have_names_once no_items = true
  items_have_names_once (item j js) = has_names_once j && items_have_names_once js

  pub members_have_names_once : Members → Bool
  members_have_names_once no_members = true
  members_have_names_once (member k j ms) = has_names_once j && members_have_names_once ms
