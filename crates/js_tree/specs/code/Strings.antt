-- What a token of a JSON text holds.
use Rattle.std.specs.Prelude.{ℕ, List, Option, Some, None}
use Rattle.json.specs.Token.{Token, string}

-- its text, if it is a string
abbrev pub string_in : Token → Option (List ℕ)
string_in (string text) = Some text
string_in _ = None
