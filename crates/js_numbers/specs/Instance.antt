-- An instance's text, with each integer in the range written in digits alone.
use Rattle.std.specs.Prelude.{ℕ, ℤ, List, map, Option, Some, None, option_map, if◌then◌else◌}
use Rattle.std.specs.Fmt.{signed_decimal}
use Rattle.json.specs.Json.{document}
use Rattle.json.specs.Lex.{tokens}
use Rattle.json.specs.Print.{print}
use Rattle.json.specs.Token.{Token, begin_object, end_object, begin_array, end_array, key, string, number, boolean}
use Rattle.json.specs.Token.{null, bad}
use Rattle.js_numbers.specs.Decimal.{decimal, is_short, integer_value}

-- the integer in the range that a number's text is
abbrev pub integer_written : List ℕ → Option ℤ
integer_written text = if is_short (decimal text) then integer_value (decimal text) else None

abbrev pub text_or : List ℕ → Option ℤ → List ℕ
text_or text None = text
text_or text (Some z) = signed_decimal z

-- `1.0`, `1e2` and `-0` become `1`, `100` and `0`, and `0.5` stays
abbrev pub exact_number : List ℕ → List ℕ
exact_number text = text_or text (integer_written text)

abbrev pub exact_token : Token → Token
exact_token begin_object = begin_object
exact_token end_object = end_object
exact_token begin_array = begin_array
exact_token end_array = end_array
exact_token (key s) = key s
exact_token (string s) = string s
exact_token (number s) = number (exact_number s)
exact_token (boolean b) = boolean b
exact_token null = null
exact_token bad = bad

-- the text of its tokens, if it is JSON
abbrev pub exact_instance : List ℕ → Option (List ℕ)
exact_instance text = option_map (λ j. print (map exact_token (tokens text))) (document text)
