-- A token in a pointer's text, or in a fragment (RFC 6901, sections 5 and 6).
use Rattle.std.specs.Prelude.{ℕ, List, ◌∷◌, flat_map}
use Rattle.js_doc.specs.declared.token.Notation.{Notation}
use Rattle.js_doc.specs.declared.token.Notation.TheVariants.{Plain, Fragment}
use Rattle.js_doc.specs.Pointer.{escape}
use Rattle.js_doc.specs.Fragment.{fragment_byte}

-- what stands after its `/`
abbrev pub written : Notation → List ℕ → List ℕ
written Plain token = escape token
written Fragment token = flat_map fragment_byte (escape token)

abbrev pub token_written : Notation → List ℕ → List ℕ
token_written notation token = 47 ∷ written notation token
