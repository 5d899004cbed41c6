-- The note of a node: an error if it fails, an annotation if it passes, or nothing (JSON Schema Core, section 12.3.4).
use Rattle.std.specs.Prelude.{ℕ, List, Bool, true, false}
use Rattle.js_doc.specs.Value.{Value}

-- an empty list of names or of indexes is an annotation too
pub data Note : Type 0 where
  silent : Note
  error : List ℕ → Note
  -- the keyword's value in the schema
  value : Value → Note
  -- names of members, the largest index, indexes of items, and `true`
  names : List (List ℕ) → Note
  index : ℕ → Note
  indexes : List ℕ → Note
  truly : Note

-- it is an error or an annotation
abbrev pub speaks : Note → Bool
speaks silent = false
speaks (error text) = true
speaks (value v) = true
speaks (names ns) = true
speaks (index i) = true
speaks (indexes is) = true
speaks truly = true
