-- The text of a node, in the pieces in which it is written (Core, section 12.3).
use Rattle.std.specs.Prelude.{ℕ, Bool, true, false, not, List, [], ◌++◌, Option, Some, None, codes}
use Rattle.js_doc.specs.Compact.{compact, quoted}
use Rattle.js_doc.specs.Value.{Value}
use Rattle.js_tree.specs.Form.{annotation_value, array_of_some, error_value, value_if}
use Rattle.js_tree.specs.Note.{Note}
use Rattle.js_tree.specs.OutputUnit.{OutputUnit}

-- the value, after the text before it, if there is one
abbrev pub given_text : List ℕ → Option Value → List ℕ
given_text start None = []
given_text start (Some value) = start ++ compact value

abbrev pub annotation_part : Note → List ℕ
annotation_part note = given_text (codes ",\"annotation\":") (annotation_value note)

abbrev pub error_part : Note → List ℕ
error_part note = given_text (codes ",\"error\":") (error_value note)

abbrev pub beginning_text : List ℕ → Note → List ℕ
beginning_text absolute note = codes "{\"absoluteKeywordLocation\":" ++ (quoted absolute ++ annotation_part note)

-- up to the annotations of a passing node's children
abbrev pub head_text : OutputUnit → List ℕ
head_text u = beginning_text u.absolute u.note

abbrev pub valid_text : Bool → List ℕ
valid_text true = codes ",\"valid\":true}"
valid_text false = codes ",\"valid\":false}"

abbrev pub end_text : List ℕ → List ℕ → Bool → List ℕ
end_text instance keyword valid = codes ",\"instanceLocation\":"
    ++ (quoted instance ++ (codes ",\"keywordLocation\":" ++ (quoted keyword ++ valid_text valid)))

-- from after the errors of a failing node's children
abbrev pub tail_text : OutputUnit → List ℕ
tail_text u = end_text u.instance u.keyword u.valid

abbrev pub node_text : OutputUnit → List Value → List ℕ
node_text u children =
    head_text u
    ++ (given_text (codes ",\"annotations\":") (value_if u.valid (array_of_some children))
    ++ (error_part u.note
    ++ (given_text (codes ",\"errors\":") (value_if (not u.valid) (array_of_some children))
    ++ tail_text u)))

-- the beginning of the list of children; the error of a node that fails stands before it
abbrev pub children_start : Note → Bool → List ℕ
children_start note true = codes ",\"annotations\":["
children_start note false = error_part note ++ codes ",\"errors\":["

-- the error of a node that passes stands after the list
abbrev pub error_behind : Note → Bool → List ℕ
error_behind note true = error_part note
error_behind note false = []

-- what stands before the items of the list of children of a node that has some
abbrev pub front_text : OutputUnit → List ℕ
front_text u = head_text u ++ children_start u.note u.valid

-- and what stands after that list
abbrev pub back_text : OutputUnit → List ℕ
back_text u = error_behind u.note u.valid ++ tail_text u

-- the text before the array of units
abbrev pub list_start : Bool → List ℕ
list_start true = codes "{\"annotations\":"
list_start false = codes "{\"errors\":"
