-- An output unit: the content of a node of a result tree (JSON Schema Core, section 12.3).
use Rattle.std.specs.Prelude.{ℕ, List, Bool}
use Rattle.js_tree.specs.Note.{Note, speaks}

pub record OutputUnit : Type 0 where
  -- its verdict
  pub valid : Bool
  -- the keyword location, the absolute keyword location and the instance location (12.3.1 to 12.3.3)
  pub keyword : List ℕ
  pub absolute : List ℕ
  pub instance : List ℕ
  pub note : Note

-- it has an error or an annotation
abbrev pub noted : OutputUnit → Bool
noted u = speaks u.note
