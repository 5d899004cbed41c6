-- The list of places has exactly the places of the least set, each once: of a document, and over a whole bundle.
use Rattle.std.specs.Prelude.{◌≡◌, ℕ, List, [], ◌∷◌, ◌⊎◌, Some, slice_get}
use Rattle.std.specs.List.{AllByRecursion}
use Rattle.url.specs.Parts.{Parts}
use Rattle.js_doc.specs.Members.{NamesAscend}
use Rattle.js_doc.specs.Pointer.{Tokens}
use Rattle.js_doc.specs.Short.{IsShort}
use Rattle.js_doc.specs.Value.{Value}
use Rattle.js_bundle.specs.Document.{Document, Documents}
use Rattle.js_bundle.specs.Place.{IsPlace, SchemaPlace, places_at, all_places}
use Rattle.js_bundle.specs.Seen.{AreRead}

-- the list has a place at the pointer, with this schema
abbrev pub ListsPlace : Tokens → Value → List SchemaPlace → Type 0
ListsPlace p v [] = ⊥
ListsPlace p v (t ∷ ts) = ((t.spot.pointer ≡ p) × (t.spot.schema ≡ v)) ⊎ ListsPlace p v ts

-- no two of the places stand at one pointer
abbrev pub AreApart : List SchemaPlace → Type 0
AreApart [] = Unit {0}
AreApart (t ∷ ts) = AllByRecursion (λ s. ¬ (t.spot.pointer ≡ s.spot.pointer)) ts × AreApart ts

pub record IsListOf (root : Value) (listed : List SchemaPlace) : Type 0 where
  pub sound : AllByRecursion (λ t. IsPlace root t.spot.pointer t.spot.schema) listed
  pub complete : (p : Tokens) (v : Value) → IsPlace root p v → ListsPlace p v listed

-- whatever the number and the URI of the document
abbrev pub ListsThePlaces : Type 0
ListsThePlaces = (number : ℕ) (uri : Parts) (root : Value) → IsListOf root (places_at number uri [] [] root)

-- ---- each once, in a value as it is read: the names of each object ascend, and no list has 2^64 items

abbrev pub ListsEachOnce : Type 0
ListsEachOnce = (number : ℕ) (uri : Parts) (root : Value) → NamesAscend root → IsShort root
    → AreApart (places_at number uri [] [] root)

-- ---- over a whole bundle

-- the place is one of the document that has its number
abbrev pub IsPlaceOf : Documents → SchemaPlace → Type 0
IsPlaceOf documents t =
    (d : Document) × (slice_get documents t.document ≡ Some d) × (t.uri ≡ d.uri)
    × IsPlace d.root t.spot.pointer t.spot.schema

-- the list has a place of the document with this number at the pointer, with this schema
abbrev pub ListsIn : ℕ → Tokens → Value → List SchemaPlace → Type 0
ListsIn n p v [] = ⊥
ListsIn n p v (t ∷ ts) = ((t.document ≡ n) × (t.spot.pointer ≡ p) × (t.spot.schema ≡ v)) ⊎ ListsIn n p v ts

-- no two of the places stand at one pointer of one document
abbrev pub Differ : SchemaPlace → SchemaPlace → Type 0
Differ t s = t.document ≡ s.document → ¬ (t.spot.pointer ≡ s.spot.pointer)

abbrev pub AreDistinct : List SchemaPlace → Type 0
AreDistinct [] = Unit {0}
AreDistinct (t ∷ ts) = AllByRecursion (λ s. Differ t s) ts × AreDistinct ts

pub record ListsAll (documents : Documents) : Type 0 where
  pub sound : AllByRecursion (IsPlaceOf documents) (all_places documents)
  pub complete : (n : ℕ) (d : Document) (p : Tokens) (v : Value) → slice_get documents n ≡ Some d → IsPlace d.root p v
      → ListsIn n p v (all_places documents)

abbrev pub ListsTheirPlaces : Type 0
ListsTheirPlaces = (documents : Documents) → ListsAll documents

abbrev pub ListsTheirsOnce : Type 0
ListsTheirsOnce = (documents : Documents) → AreRead documents → AreDistinct (all_places documents)
