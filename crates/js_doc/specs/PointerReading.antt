-- The tokens that a pointer's text is read as, byte by byte: None where it is no pointer's text.
use Rattle.std.specs.Prelude.{◌≡◌, ℕ, Bool, true, false, Option, Some, None, option_map}
use Rattle.std.specs.Prelude.{List, [], ◌∷◌, ◌++◌, if◌then◌else◌, ◌==◌}
use Rattle.js_doc.specs.Pointer.{Tokens, pointer_text}

-- after a `/`: the first token goes on from what was read of it; `tilde`: a `~` was read last
abbrev pub tokens_read : Bool → List ℕ → List ℕ → Option Tokens
tokens_read true token [] = None
tokens_read false token [] = Some (token ∷ [])
tokens_read true token (b ∷ bs) =
    if b == 48 then tokens_read false (token ++ 126 ∷ []) bs else
    (if b == 49 then tokens_read false (token ++ 47 ∷ []) bs else None)
tokens_read false token (b ∷ bs) =
    if b == 126
    then tokens_read true token bs
    else (if b == 47 then option_map (λ p. token ∷ p) (tokens_read false [] bs) else tokens_read
    false (token ++ b ∷ []) bs)

abbrev pub pointer_of : List ℕ → Option Tokens
pointer_of [] = Some []
pointer_of (b ∷ bs) = if b == 47 then tokens_read false [] bs else None

-- ---- why it is the reading: each pointer's text is read as the pointer, and what is read as a pointer is its text

abbrev pub ReadsBack : Type 0
ReadsBack = (p : Tokens) → pointer_of (pointer_text p) ≡ Some p

abbrev pub ReadsNoMore : Type 0
ReadsNoMore = (text : List ℕ) (p : Tokens) → pointer_of text ≡ Some p → pointer_text p ≡ text
