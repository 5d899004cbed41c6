-- A value as a line of text.
use Rattle.std.specs.Prelude.{ℕ, List, [], ◌∷◌, ◌++◌}
use Rattle.js_doc.specs.Compact.{compact}
use Rattle.js_doc.specs.Value.{Value}

-- its compact text, and a line feed
abbrev pub value_line : Value → List ℕ
value_line v = compact v ++ 10 ∷ []
