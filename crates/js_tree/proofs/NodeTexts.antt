-- The text of a node is that of its document.
use Rattle.std.proofs.Common.{◌≡◌, ℕ, Bool, true, false, not, List, [], ◌∷◌, ◌++◌, Option, Some}
use Rattle.std.proofs.Common.{None, codes, refl, ap, sym, ◌∙◌, append_assoc, map}
use Rattle.json.specs.Print.{escape_byte}
use Rattle.js_doc.specs.Compact.{compact, compact_items, compact_members, quoted}
use Rattle.js_doc.specs.Value.{Value, items, list, members, object, text, truth}
use Rattle.js_tree.specs.Form.{annotation_value, array_of_some, error_value}
use Rattle.js_tree.specs.Form.{member_of_some, list_name, node_value, value_if}
use Rattle.js_tree.specs.NodeText.{given_text, annotation_part, back_text, children_start, error_behind, error_part}
use Rattle.js_tree.specs.NodeText.{front_text, head_text, list_start, tail_text, valid_text, node_text}
use Rattle.js_tree.specs.Note.{Note}
use Rattle.js_tree.specs.OutputUnit.{OutputUnit}

abbrev Members : Type 0
Members = List (List ℕ × Value)

-- a member that is there if there is a value for it
given_member : (name start : List ℕ) (value : Option Value) (later : Members) → start ≡ 44 ∷ (quoted name ++ 58 ∷ [])
    → compact_members true (members (member_of_some name value ++ later))
    ≡ given_text start value ++ compact_members true (members later)
given_member name start None later e = refl
given_member name start (Some value) later e =
    sym (append_assoc (44 ∷ (quoted name ++ 58 ∷ [])) (compact value) (compact_members true (members later)) ∙ ap
    (λ l. 44 ∷ l) (append_assoc (quoted name) (58 ∷ []) (compact value ++ compact_members true (members later))))
    ∙ ap (λ l. (l ++ compact value) ++ compact_members true (members later)) (sym e)

-- how the members begin that come after another
member_starts :
    (codes ",\"annotation\":" ≡ 44 ∷ (quoted (codes "annotation") ++ 58 ∷ []))
    × (codes ",\"annotations\":" ≡ 44 ∷ (quoted (codes "annotations") ++ 58 ∷ []))
    × (codes ",\"error\":" ≡ 44 ∷ (quoted (codes "error") ++ 58 ∷ []))
    × (codes ",\"errors\":" ≡ 44 ∷ (quoted (codes "errors") ++ 58 ∷ []))
unfolding escape_byte
member_starts = (refl, refl, refl, refl)

last_member : (valid : Bool) → compact_members true (members ((codes "valid", truth valid) ∷ [])) ≡ valid_text valid
unfolding escape_byte
last_member true = refl
last_member false = refl

last_members : (u : OutputUnit) → compact_members true (members ((codes "instanceLocation", text u.instance)
    ∷ (codes "keywordLocation", text u.keyword) ∷ (codes "valid", truth u.valid) ∷ [])) ≡ tail_text u
unfolding escape_byte
last_members u = rw (last_member u.valid) refl

abbrev pub annotations : Bool → List Value → List ℕ
annotations valid children = given_text (codes ",\"annotations\":") (value_if valid (array_of_some children))

abbrev pub errors : Bool → List Value → List ℕ
errors valid children = given_text (codes ",\"errors\":") (value_if (not valid) (array_of_some children))

node_text_is : (u : OutputUnit) (children : List Value) → node_text u children ≡ compact (node_value u children)
unfolding escape_byte
node_text_is u children =
    let last : Members = (codes "instanceLocation", text u.instance) ∷ (codes "keywordLocation", text u.keyword)
    ∷ (codes "valid", truth u.valid) ∷ [] in
    let fourth = given_member (codes "errors") (codes ",\"errors\":") (value_if (not u.valid) (array_of_some children))
    last member_starts.3 ∙ ap (λ l. errors u.valid children ++ l) (last_members u) in
    let third = given_member (codes "error") (codes ",\"error\":") (error_value u.note)
    (member_of_some (codes "errors") (value_if (not u.valid) (array_of_some children)) ++ last) member_starts.2
    ∙ ap (λ l. error_part u.note ++ l) fourth in
    let second = given_member (codes "annotations") (codes ",\"annotations\":")
    (value_if u.valid (array_of_some children)) (member_of_some (codes "error") (error_value u.note)
    ++ (member_of_some (codes "errors") (value_if (not u.valid) (array_of_some children)) ++ last)) member_starts.1
    ∙ ap (λ l. annotations u.valid children ++ l) third in
    let first = given_member (codes "annotation") (codes ",\"annotation\":") (annotation_value u.note) (member_of_some
    (codes "annotations") (value_if u.valid (array_of_some children)) ++ (member_of_some (codes "error")
    (error_value u.note) ++ (member_of_some (codes "errors") (value_if (not u.valid) (array_of_some children))
    ++ last))) member_starts.0 ∙ ap (λ l. annotation_part u.note ++ l) second in
    ap (λ l. codes "{\"absoluteKeywordLocation\":" ++ l) (append_assoc (quoted u.absolute) (annotation_part u.note)
    (annotations u.valid children ++ (error_part u.note ++ (errors u.valid children ++ tail_text u)))
    ∙ ap (λ l. quoted u.absolute ++ l) (sym first))

-- with the verdict and the note by themselves
pub pieces_are : (u : OutputUnit) (children : List Value) (v : Bool) (n : Note) → v ≡ u.valid → n ≡ u.note
    → head_text u ++ (annotations v children ++ (error_part n ++ (errors v children ++ tail_text u)))
    ≡ compact (node_value u children)
pieces_are u children v n e f = rw (e, f) (node_text_is u children)

pub no_children : (start : List ℕ) (b : Bool) → given_text start (value_if b None) ≡ []
no_children start true = refl
no_children start false = refl

pub leaf_text_is : (u : OutputUnit) (n : Note) → n ≡ u.note
    → head_text u ++ (error_part n ++ tail_text u) ≡ compact (node_value u [])
leaf_text_is u n f =
    let none = no_children (codes ",\"annotations\":") u.valid in
    let nothing = no_children (codes ",\"errors\":") (not u.valid) in
    rw f (ap (λ l. head_text u ++ (l ++ (error_part u.note ++ tail_text u))) (sym none) ∙ (ap (λ l. head_text u
    ++ (annotations u.valid [] ++ (error_part u.note ++ (l ++ tail_text u)))) (sym nothing) ∙ node_text_is u []))

children_then : (note : Note) (valid : Bool) (v : Value) (vs : List Value) (end : List ℕ) →
    children_start note valid ++ (compact_items false (items (v ∷ vs)) ++ (error_behind note valid ++ end))
    ≡ annotations valid (v ∷ vs) ++ (error_part note ++ (errors valid (v ∷ vs) ++ end))
children_then note true v vs end = refl
children_then note false v vs end =
    append_assoc (error_part note) (codes ",\"errors\":[") (compact_items false (items (v ∷ vs)) ++ end)

-- a node with children
pub parent_text_is : (u : OutputUnit) (v : Value) (vs : List Value)
    → front_text u ++ (compact_items false (items (v ∷ vs)) ++ back_text u) ≡ compact (node_value u (v ∷ vs))
parent_text_is u v vs =
    append_assoc (head_text u) (children_start u.note u.valid) (compact_items false (items (v ∷ vs)) ++ back_text u)
    ∙ (ap (λ l. head_text u ++ l) (children_then u.note u.valid v vs (tail_text u)) ∙ node_text_is u (v ∷ vs))

-- ---- the list of units

pub list_text_is : (valid : Bool) (vs : Value) → list_start valid ++ (compact vs ++ valid_text valid)
    ≡ compact (object (members ((list_name valid, vs) ∷ (codes "valid", truth valid) ∷ [])))
unfolding escape_byte
list_text_is true vs = refl
list_text_is false vs = refl

abbrev pub list_value : Bool → List Value → Value
list_value valid vs = object (members ((list_name valid, list (items vs)) ∷ (codes "valid", truth valid) ∷ []))

abbrev pub units_value : Bool → List OutputUnit → Value
units_value valid us = list_value valid (map (λ u. node_value u []) us)
