-- Whether there are copies.
use Rattle.std.specs.Prelude.{[], ◌∷◌, Bool, true, false}
use Rattle.js_doc.specs.Value.{Named}

abbrev pub has_some : Named → Bool
has_some [] = false
has_some (m ∷ ms) = true
