-- A pointer (RFC 6901): the tokens on the way from a value's root to a value in it, and its text.
use Rattle.std.specs.Prelude.{ℕ, List, [], ◌∷◌, ◌++◌, if◌then◌else◌, ◌==◌}

abbrev pub Tokens : Type 0
Tokens = List (List ℕ)

-- `~` is written `~0`, and `/` is written `~1` (section 3)
abbrev pub escape : List ℕ → List ℕ
escape [] = []
escape (b ∷ bs) = if b == 126 then 126 ∷ 48 ∷ escape bs else (if b == 47 then 126 ∷ 49 ∷ escape bs else b ∷ escape bs)

-- a token after a `/`
abbrev pub token_text : List ℕ → List ℕ
token_text token = 47 ∷ escape token

abbrev pub pointer_text : Tokens → List ℕ
pointer_text [] = []
pointer_text (token ∷ tokens) = token_text token ++ pointer_text tokens
