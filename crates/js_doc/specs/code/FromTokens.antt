-- What tokens are read as, with no tree of `serde_json` in between.
use Rattle.std.specs.Prelude.{◌≡◌, ℕ, List, Ok, Some, length}
use Rattle.json.specs.Json as json
use Rattle.json.specs.Token.{Token}
use Rattle.serde_json.specs.Data as tree
use Rattle.serde_json.specs.Read.{converted, number_of, of_items, of_json, of_members}
use Rattle.js_doc.specs.Value.{Items, Members, Value}
use Rattle.js_doc.specs.WholeNumbers.{items_in, members_in, value_in, whole_number}

-- the value that comes next, nested no deeper than the number, and the tokens behind it
abbrev pub IsNextValue : ℕ → List Token → Value → List Token → Type 0
IsNextValue depth ts v rest = (d : tree.Data)
    × (converted of_json (json.value depth ts) ≡ Some (d, rest)) × (value_in d ≡ Ok v)

-- the items up to the end of the array
abbrev pub AreNextItems : ℕ → List Token → Items → List Token → Type 0
AreNextItems depth ts vs rest = (ds : tree.Items)
    × (converted of_items (json.items (json.value depth) (length ts) ts) ≡ Some (ds, rest)) × (items_in 0 ds ≡ Ok vs)

-- the members up to the end of the object
abbrev pub AreNextMembers : ℕ → List Token → Members → List Token → Type 0
AreNextMembers depth ts ms rest = (ds : tree.Members)
    × (converted (λ found. of_members found tree.no_members) (json.members (json.value depth) (length ts) ts)
    ≡ Some (ds, rest)) × (members_in ds ≡ Ok ms)

-- the number that a token is the text of, if it is whole
abbrev pub IsWholeText : List ℕ → Value → Type 0
IsWholeText text v = (n : tree.Num) × (number_of text ≡ Some n) × (whole_number n ≡ Ok v)
