-- The parts of a keyword's argument, and of the value that it judges.
use Rattle.std.specs.Prelude.{ℕ, ℤ, pos, List, [], ◌∷◌, Bool, true, false, not, ◌||◌, map}
use Rattle.js_doc.specs.Parts.{item_list, member_list}
use Rattle.js_doc.specs.Value.{Value, truth, whole, text, list, object, Named}
-- until each crate above cites these where they stand
pub use Rattle.js_doc.specs.Members.{has_name as has}
pub use Rattle.js_doc.specs.Parts.{item_list as listed, member_list as named, items_of as values, members_of as entries}

-- ---- what a value holds, where it is of that type

abbrev pub boolean : Value → Bool
boolean (truth b) = b
boolean _ = false

abbrev pub number : Value → ℤ
number (whole z) = z
number _ = pos 0

abbrev pub string : Value → List ℕ
string (text s) = s
string _ = []

-- a string alone, or those of a list
abbrev pub strings : Value → List (List ℕ)
strings (text s) = s ∷ []
strings (list vs) = map string (item_list vs)
strings _ = []

-- ---- a test of the values of one type: the others pass it

abbrev pub on_number : Value → (ℤ → Bool) → Bool
on_number (whole z) p = p z
on_number _ p = true

abbrev pub on_string : Value → (List ℕ → Bool) → Bool
on_string (text s) p = p s
on_string _ p = true

abbrev pub on_array : Value → (List Value → Bool) → Bool
on_array (list vs) p = p (item_list vs)
on_array _ p = true

abbrev pub on_object : Value → (Named → Bool) → Bool
on_object (object ms) p = p (member_list ms)
on_object _ p = true

-- ---- of two tests

abbrev pub implies : Bool → Bool → Bool
implies a b = not a || b
