-- Values and the lists that they are made of.
-- until each crate above cites these where they stand
pub use Rattle.js_doc.proofs.PartLists.{item_list-items as listed_items, member_list-members as named_members}
use Rattle.std.proofs.Common.{◌≡◌, ℕ, Bool, ◌||◌, List, [], ◌∷◌, map, refl, ap, ◌∙◌}
use Rattle.std.specs.List.{list_any}
use Rattle.js_doc.specs.Value.{text}
use Rattle.js_doc.proofs.PartLists.{item_list-items, member_list-members}
use Rattle.js_assert.specs.Argument.{string, strings}
use Rattle.js_assert.specs.Names.{names_value}

string_text : (names : List (List ℕ)) → map string (map text names) ≡ names
string_text [] = refl
string_text (name ∷ names) = ap (λ ns. name ∷ ns) (string_text names)

pub strings_names : (names : List (List ℕ)) → strings (names_value names) ≡ names
strings_names names = ap (map string) (item_list-items (map text names)) ∙ string_text names

pub list_any-map : {A B : Type 0} (f : A → B) (p : B → Bool) (xs : List A)
    → list_any p (map f xs) ≡ list_any (λ x. p (f x)) xs
list_any-map f p [] = refl
list_any-map f p (x ∷ xs) = ap (λ b. p (f x) || b) (list_any-map f p xs)

pub ruleset object_rules = (member_list-members, strings_names)

pub ruleset array_rules = (item_list-items, strings_names)
