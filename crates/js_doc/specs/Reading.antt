-- What `read` answers of a text.
use Rattle.std.specs.Prelude.{◌≡◌, ℕ, List, ◌∷◌, Err, Some, None, IsUtf8}
use Rattle.serde_json.specs.Data.{Data}
use Rattle.serde_json.specs.Read.{read as read_json}
use Rattle.js_doc.specs.Value.{Value}
use Rattle.js_doc.specs.WholeNumbers.{Found, value_in}
use Rattle.js_doc.specs.declared.reading.ReadFault.{ReadFault}
use Rattle.js_doc.specs.declared.reading.ReadFault.TheVariants.{Memory, NotJson, NotWhole}

-- `serde_json` reads no value
abbrev pub IsNotJson : List ℕ → Type 0
IsNotJson bytes = IsUtf8 bytes → read_json bytes ≡ None

-- `serde_json` reads a value, and this is what it is in this profile
abbrev pub IsReadAs : List ℕ → Found Value → Type 0
IsReadAs bytes found = IsUtf8 bytes × ((d : Data) × (read_json bytes ≡ Some d) × (value_in d ≡ found))

-- when each fault comes; want of memory may come at any time
abbrev pub IsReadFault : List ℕ → ReadFault → Type 0
IsReadFault bytes Memory = Unit {0}
IsReadFault bytes NotJson = IsNotJson bytes
IsReadFault bytes (NotWhole place) = IsReadAs bytes (Err place)

-- when each fault comes where a value is there already: NotJson never does
abbrev pub IsConversionFault : {A : Type 0} → Found A → ReadFault → Type 0
IsConversionFault found Memory = Unit {0}
IsConversionFault found NotJson = ⊥
IsConversionFault found (NotWhole place) = found ≡ Err place

-- the new fault is the old one, as seen from one level further up
abbrev pub Lifts : List ℕ → ReadFault → ReadFault → Type 0
Lifts token old Memory = Unit {0}
Lifts token old NotJson = old ≡ NotJson
Lifts token old (NotWhole place) = (inner : List (List ℕ)) × (old ≡ NotWhole inner) × (place ≡ token ∷ inner)
