-- The shapes of arguments (JSON Schema Validation, section 6). A fraction is no number here, and no list that is asked
-- to have no repeats may have one.
use Rattle.std.specs.Prelude.{ℕ, ℤ, pos, List, [], ◌∷◌, ◌++◌, Bool, true, false}
use Rattle.std.specs.Prelude.{not, ◌&&◌, map, codes, int_le, int_lt}
use Rattle.std.specs.List.{list_any, list_all}
use Rattle.std.specs.Str.{bytes_eq}
use Rattle.js_doc.specs.Value.{Value, truth, whole, text, list, object}
use Rattle.js_doc.specs.Parts.{item_list, member_list}
use Rattle.js_assert.specs.Argument.{string}

abbrev pub is_boolean : Value → Bool
is_boolean (truth b) = true
is_boolean _ = false

-- a number that passes the test
abbrev pub is_number_with : (ℤ → Bool) → Value → Bool
is_number_with test (whole z) = test z
is_number_with test _ = false

abbrev pub is_number : Value → Bool
is_number v = is_number_with (λ _. true) v

abbrev pub is_number_above : ℤ → Value → Bool
is_number_above least v = is_number_with (int_lt least) v

abbrev pub is_count : Value → Bool
is_count v = is_number_with (int_le (pos 0)) v

abbrev pub is_string : Value → Bool
is_string (text s) = true
is_string _ = false

abbrev pub is_list : Value → Bool
is_list (list vs) = true
is_list _ = false

abbrev pub is_empty_list : List Value → Bool
is_empty_list [] = true
is_empty_list (v ∷ vs) = false

-- a string, and none of those seen before
abbrev pub is_new_name : List (List ℕ) → Value → Bool
is_new_name seen (text s) = not (list_any (bytes_eq s) seen)
is_new_name seen _ = false

-- strings, none twice, and none of those seen before
abbrev pub are_new_names : List (List ℕ) → List Value → Bool
are_new_names seen [] = true
are_new_names seen (v ∷ vs) = is_new_name seen v && are_new_names (seen ++ string v ∷ []) vs

-- a list of strings without repeats
abbrev pub is_list_of_names : Value → Bool
is_list_of_names (list vs) = are_new_names [] (item_list vs)
is_list_of_names _ = false

-- an object of such lists
abbrev pub is_object_of_names : Value → Bool
is_object_of_names (object ms) = list_all (λ m. is_list_of_names m.1) (member_list ms)
is_object_of_names _ = false

abbrev pub type_names : List (List ℕ)
type_names =
    codes "null" ∷ codes "boolean" ∷ codes "object" ∷ codes "array" ∷ codes "number"
    ∷ codes "string" ∷ codes "integer" ∷ []

abbrev pub is_type_name : List ℕ → Bool
is_type_name s = list_any (bytes_eq s) type_names

-- names of types, none twice, and none of those seen before
abbrev pub are_new_types : List (List ℕ) → List Value → Bool
are_new_types seen vs = are_new_names seen vs && list_all is_type_name (map string vs)

-- a type's name, or a list of such names that is not empty, without repeats
abbrev pub is_type : Value → Bool
is_type (text s) = is_type_name s
is_type (list vs) = not (is_empty_list (item_list vs)) && are_new_types [] (item_list vs)
is_type _ = false
