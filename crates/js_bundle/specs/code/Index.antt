-- What finds places by their keys. Of the places with one key it finds the first, in scan order.
use Rattle.std.specs.Prelude.{◌≡◌, ℕ, ◌<◌, ◌^◌, List, [], ◌∷◌, ◌++◌, Option, Some, None, option_map}
use Rattle.std.specs.Prelude.{option_and_then, option_to_list, bytes_eq, codes, decimal, if◌then◌else◌}
use Rattle.std.specs.List.{AllByRecursion, list_any, position_from}
use Rattle.std.specs.BTreeMap.{get_by_text}
use Rattle.std.specs.Option.{option_or}
use Rattle.js_doc.specs.Pointer.{Tokens, pointer_text}
use Rattle.js_doc.specs.PointerReading.{pointer_of}
use Rattle.js_bundle.specs.declared.index.Index.{Index}
use Rattle.js_bundle.specs.declared.index.place_by_uri.Root.{Root}
use Rattle.js_bundle.specs.declared.index.numbering.Numbering.{Numbering}
use Rattle.js_bundle.specs.Keyword.{Text, text_argument}
use Rattle.js_bundle.specs.Names.{is_pointer, is_root, known_as}
use Rattle.js_bundle.specs.Resource.{Site}
use Rattle.js_bundle.specs.Url.{printed}

-- ---- numbers under texts

abbrev pub number_of_key : Numbering → Text → Option ℕ
number_of_key numbers key = get_by_text numbers.first key

-- each of the keys has the number, unless it had one before
pub record AreInserted (old : Numbering) (keys : List Text) (n : ℕ) (new : Numbering) : Type 0 where
  pub recorded : (key : Text) → number_of_key new key
      ≡ option_or (number_of_key old key) (if list_any (bytes_eq key) keys then Some n else None)

-- ---- the keys of a place

-- the two of `known_as`
abbrev pub root_uris : Site → List Text
root_uris place = if is_root place then printed place.above.base ∷ [] else []

abbrev pub made_uris : Site → List Text
made_uris place = if place.identifies then printed place.own.base ∷ [] else []

-- where it stands: as a pointer's text, which determines its tokens
abbrev pub place_key : ℕ → Tokens → Text
place_key document pointer = pointer_text (decimal document ∷ pointer)

abbrev pub place_keys : Site → List Text
place_keys place = place_key place.document place.pointer ∷ []

-- a name in the resource that has its root at the pointer
abbrev pub name_key : ℕ → Tokens → Text → Text
name_key document root name = place_key document (name ∷ root)

abbrev pub name_keys_by : Text → Site → List Text
name_keys_by keyword place =
    option_to_list (option_map (name_key place.document place.own.resource) (text_argument keyword place.schema))

abbrev pub name_keys : Site → List Text
name_keys place = name_keys_by (codes "$anchor") place ++ name_keys_by (codes "$dynamicAnchor") place

-- ---- the index

-- under each key stands the number of the first place that has it
pub record FindsFirst (keys : Site → List Text) (numbers : Numbering) (places : List Site) : Type 0 where
  pub first : (key : Text)
      → number_of_key numbers key ≡ position_from (λ place. list_any (bytes_eq key) (keys place)) 0 places

pub record IsIndexOf (index : Index) (all : List Site) : Type 0 where
  pub counted : AllByRecursion (λ place. place.document < 2 ^ 64) all
  pub known : FindsFirst known_as index.known all
  pub standing : FindsFirst place_keys index.places all
  pub named : FindsFirst name_keys index.names all

-- a place more
pub record HasPlaceAdded (old : Index) (place : Site) (n : ℕ) (new : Index) : Type 0 where
  pub counted : place.document < 2 ^ 64
  pub known : AreInserted old.known (known_as place) n new.known
  pub standing : AreInserted old.places (place_keys place) n new.places
  pub named : AreInserted old.names (name_keys place) n new.names

-- ---- what the index has

-- the number of the first place that stands at the pointer
abbrev pub number_standing : Index → ℕ → Tokens → Option ℕ
number_standing index document pointer = number_of_key index.places (place_key document pointer)

-- that of the first place that makes the name in the resource with its root there
abbrev pub number_making : Index → ℕ → Tokens → Text → Option ℕ
number_making index document root name = number_of_key index.names (name_key document root name)

-- that of the place which a fragment names in the resource
abbrev pub number_in : Index → ℕ → Tokens → Text → Option ℕ
number_in index document root f =
    if is_pointer f then option_and_then (λ tokens. number_standing index document (root ++ tokens)) (pointer_of f)
    else number_making index document root f

abbrev pub number_in_root : Index → Text → Root → Option ℕ
number_in_root index f root = number_in index root.document root.pointer.now f

abbrev pub number_under : Index → Option Root → Text → Option ℕ
number_under index root f = option_and_then (number_in_root index f) root

-- where the root of a resource stands
pub record Standing : Type 0 where
  pub document : ℕ
  pub pointer : Tokens

abbrev pub standing : Site → Standing
standing place = record { document = place.document; pointer = place.pointer }

abbrev pub standing_of : Root → Standing
standing_of root = record { document = root.document; pointer = root.pointer.now }
