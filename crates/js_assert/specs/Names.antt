-- Lists of names as values.
use Rattle.std.specs.Prelude.{ℕ, List, map}
use Rattle.std.specs.Borrow.{Bor}
use Rattle.js_doc.specs.Value.{Value, text, list, items}

abbrev pub names_value : List (List ℕ) → Value
names_value names = list (items (map text names))

-- names that are lent
abbrev pub names_seen : List (Bor (List ℕ)) → List (List ℕ)
names_seen names = map (λ name. name.now) names
