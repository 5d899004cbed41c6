-- The name of a copy among the definitions of its document. What stands under `$defs`, which a draft before 2019-09
-- doesn't know, keeps its name if the definitions don't have it; else the name is the text of the JSON Pointer. A kept
-- name doesn't begin with `/`, so two copies have two names.
use Rattle.std.specs.Prelude.{[], ◌∷◌, ◌++◌, Bool, false, not, ◌&&◌, ◌==◌, Option, Some, None, bytes_eq, codes}
use Rattle.std.specs.Prelude.{option_and_then, if◌then◌else◌}
use Rattle.js_doc.specs.Members.{has_name}
use Rattle.js_doc.specs.Pointer.{Tokens, pointer_text}
use Rattle.js_doc.specs.PointerReading.{pointer_of}
use Rattle.js_doc.specs.Value.{Text, Named}
use Rattle.js_upgrade.specs.Dialect.{first_of, is_before}
use Rattle.js_upgrade.specs.declared.dialect.Dialect.{Dialect}
use Rattle.js_upgrade.specs.declared.dialect.Dialect.TheVariants.{Draft2019}

-- the keyword that holds definitions
abbrev pub definitions_name : Dialect → Text
definitions_name d = if is_before d Draft2019 then codes "definitions" else codes "$defs"

-- it begins as the text of a pointer does, which isn't the root's
abbrev pub is_rooted : Text → Bool
is_rooted [] = false
is_rooted (b ∷ bs) = b == 47

-- the name of what stands under `$defs`
abbrev pub kept_name : Tokens → Option Text
kept_name (keyword ∷ name ∷ []) =
    if bytes_eq keyword (codes "$defs") && not (is_rooted name) then Some name else None
kept_name _ = None

abbrev pub unless_there : Named → Text → Option Text
unless_there definitions name = if has_name name definitions then None else Some name

-- of what stands at the tokens, a name that the definitions don't have
abbrev pub free_name : Named → Tokens → Option Text
free_name definitions tokens =
    first_of (option_and_then (unless_there definitions) (kept_name tokens))
    (unless_there definitions (pointer_text tokens))

abbrev pub if_there : Named → Text → Option Text
if_there copies name = if has_name name copies then Some name else None

-- of what stands at the tokens, the name that its copy has
abbrev pub copied_name : Named → Tokens → Option Text
copied_name copies tokens =
    first_of (option_and_then (if_there copies) (kept_name tokens)) (if_there copies (pointer_text tokens))

-- where the copy stands
abbrev pub at_copy : Dialect → Tokens → Option Text → Tokens
at_copy d tokens None = tokens
at_copy d tokens (Some name) = definitions_name d ∷ name ∷ []

-- the tokens, or those of the copy of what stands there
abbrev pub redirected : Dialect → Named → Tokens → Tokens
redirected d copies tokens = at_copy d tokens (copied_name copies tokens)

-- of what stands where, by the name of the copy
abbrev pub place_named : Text → Option Tokens
place_named name = if is_rooted name then pointer_of name else Some (codes "$defs" ∷ name ∷ [])

-- ---- what stands in a copy, where that stands which was copied

abbrev pub original_place : Option Tokens → Tokens → Tokens → Tokens
original_place None rest tokens = tokens
original_place (Some place) rest tokens = place ++ rest

abbrev pub uncopied : Dialect → Named → Tokens → Tokens
uncopied d copies (keyword ∷ name ∷ rest) =
    if bytes_eq keyword (definitions_name d) && has_name name copies
    then original_place (place_named name) rest (keyword ∷ name ∷ rest) else keyword ∷ name ∷ rest
uncopied d copies tokens = tokens
