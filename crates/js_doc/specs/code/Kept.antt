-- The bytes of a text, wherever they are kept.
use Rattle.std.specs.Prelude.{ℕ, List, string_bytes}
use Rattle.js_doc.specs.declared.string.Kept.{Kept}
use Rattle.js_doc.specs.declared.string.Kept.TheVariants.{Short, Long}

abbrev pub kept_bytes : Kept → List ℕ
kept_bytes (Short s) = s.bytes
kept_bytes (Long s) = string_bytes s
