-- Words that stand for themselves.
use Rattle.std.specs.Prelude.{ℕ, List, [], ◌∷◌, Bool, true, false, ◌&&◌, Option, Some}
use Rattle.std.specs.Prelude.{None, option_map, ◌==◌, if◌then◌else◌}
use Rattle.std.specs.Str.{bytes_eq, chars}
use Rattle.clap.specs.Words.{Text}

abbrev pub has_more : List ℕ → Bool
has_more [] = false
has_more (x ∷ xs) = true

-- a word that begins with `-` (45) and has more characters
abbrev pub is_flag : Text → Bool
is_flag [] = false
is_flag (b ∷ bs) = (b == 45) && has_more (chars bs)

abbrev pub dashes : Text
dashes = 45 ∷ 45 ∷ []

-- the words, without the first `--`; none where one before it is a flag
abbrev pub plain_of : List Text → Option (List Text)
plain_of [] = Some []
plain_of (word ∷ words) =
    if bytes_eq word dashes then Some words
    else (if is_flag word then None else option_map (λ ws. word ∷ ws) (plain_of words))
