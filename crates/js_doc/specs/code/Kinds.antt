-- The kinds of values in their order: a value of a lower rank comes first.
use Rattle.std.specs.Prelude.{ℕ}
use Rattle.js_doc.specs.Value.{Value, null, truth, whole, text, list, object}

abbrev pub kind_rank : Value → ℕ
kind_rank null = 0
kind_rank (truth b) = 1
kind_rank (text s) = 2
kind_rank (whole z) = 3
kind_rank (list vs) = 4
kind_rank (object ms) = 5
