-- Where schemas stand: the places of a document (JSON Schema Core, sections 4.3.5, 8.2.4, 10 and 11).
-- A document's root is a place, and so is each schema that a keyword of a place holds; nothing else is one.
use Rattle.std.specs.Prelude.{◌≡◌, ℕ, suc, List, [], ◌∷◌, ◌++◌, Some, decimal, slice_get}
use Rattle.std.specs.List.{IsAmong}
use Rattle.url.specs.Parts.{Parts}
use Rattle.js_doc.specs.Pointer.{Tokens}
use Rattle.js_doc.specs.Value.{Value, list, object, Values, Items, no_items, item, Members, no_members, member}
use Rattle.js_doc.specs.Parts.{members_of}
use Rattle.js_keyword.specs.declared.argument_form.Holding.{Holding}
use Rattle.js_keyword.specs.declared.argument_form.Holding.TheVariants.{One, Listed, Named, Nothing}
use Rattle.js_keyword.specs.Keyword.{subschemas, which_keyword}
use Rattle.js_bundle.specs.Document.{Documents}
use Rattle.js_bundle.specs.Keyword.{Text}

-- how the argument of the keyword with this name holds schemas
unfoldable pub holding : Text → Holding
holding name = subschemas (which_keyword name)

-- ---- the least set

abbrev pub values : Items → Values
values no_items = []
values (item v vs) = v ∷ values vs

abbrev pub items_in : Value → Values
items_in (list vs) = values vs
items_in _ = []

-- in a document with this root, a place stands at the pointer, and this is the schema there
pub data IsPlace (root : Value) : Tokens → Value → Type 0 where
  at_root : IsPlace root [] root
  in_keyword : (p : Tokens) (v : Value) (k : Text) (u : Value) (q : Tokens)
      → IsPlace root p v → holding k ≡ One → IsAmong (members_of v) (k, u) → q ≡ p ++ k ∷ [] → IsPlace root q u
  in_list : (p : Tokens) (v : Value) (k : Text) (l : Value) (i : ℕ) (u : Value) (q : Tokens)
      → IsPlace root p v → holding k ≡ Listed → IsAmong (members_of v) (k, l) → slice_get (items_in l) i ≡ Some u
      → q ≡ p ++ k ∷ decimal i ∷ [] → IsPlace root q u
  in_object : (p : Tokens) (v : Value) (k : Text) (l : Value) (n : Text) (u : Value) (q : Tokens)
      → IsPlace root p v → holding k ≡ Named → IsAmong (members_of v) (k, l) → IsAmong (members_of l) (n, u)
      → q ≡ p ++ k ∷ n ∷ [] → IsPlace root q u

-- ---- the places in scan order

-- a schema, and where it stands in its document
pub record Located : Type 0 where
  pub pointer : Tokens
  pub schema : Value

-- a place: the number and the URI of its document, the places above it from the root on, and where it stands
pub record SchemaPlace : Type 0 where
  pub document : ℕ
  pub uri : Parts
  pub above : List Located
  pub spot : Located

abbrev pub places_held : Holding → List SchemaPlace → List SchemaPlace → List SchemaPlace → List SchemaPlace
places_held One one listed named = one
places_held Listed one listed named = listed
places_held Named one listed named = named
places_held Nothing one listed named = []

module _ (number : ℕ) (uri : Parts) where
  abbrev mutual
    -- The place at p and those below it: itself first, then by keyword ascending, and by index or by name ascending.
    pub places_at : List Located → Tokens → Value → List SchemaPlace
    places_at above p (object ms) =
        record { document = number; uri = uri; above = above; spot = record { pointer = p; schema = object ms } }
        ∷ places_of_keywords (above ++ record { pointer = p; schema = object ms } ∷ []) p ms
    places_at above p v = record
        { document = number; uri = uri; above = above; spot = record { pointer = p; schema = v } } ∷ []

    pub places_of_keywords : List Located → Tokens → Members → List SchemaPlace
    places_of_keywords above p no_members = []
    places_of_keywords above p (member k v ms) =
        places_held (holding k) (places_at above (p ++ k ∷ []) v) (places_in_list above (p ++ k ∷ []) v)
        (places_in_object above (p ++ k ∷ []) v)
        ++ places_of_keywords above p ms

    pub places_in_list : List Located → Tokens → Value → List SchemaPlace
    places_in_list above p (list vs) = places_of_items above p 0 vs
    places_in_list above p _ = []

    pub places_of_items : List Located → Tokens → ℕ → Items → List SchemaPlace
    places_of_items above p i no_items = []
    places_of_items above p i (item v vs) = places_at above (p ++ decimal i ∷ []) v
        ++ places_of_items above p (suc i) vs

    pub places_in_object : List Located → Tokens → Value → List SchemaPlace
    places_in_object above p (object ms) = places_of_members above p ms
    places_in_object above p _ = []

    pub places_of_members : List Located → Tokens → Members → List SchemaPlace
    places_of_members above p no_members = []
    places_of_members above p (member n v ms) = places_at above (p ++ n ∷ []) v ++ places_of_members above p ms

-- the places of the documents, the first of which has the number n
abbrev pub places_from : ℕ → Documents → List SchemaPlace
places_from n [] = []
places_from n (d ∷ ds) = places_at n d.uri [] [] d.root ++ places_from (suc n) ds

-- all places, document by document
abbrev pub all_places : Documents → List SchemaPlace
all_places documents = places_from 0 documents
