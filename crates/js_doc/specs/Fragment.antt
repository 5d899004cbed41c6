-- A pointer as a URI's fragment (RFC 6901, section 6; RFC 3986, section 3.5).
use Rattle.std.specs.Prelude.{ℕ, Bool, List, [], ◌∷◌, ◌||◌, ◌==◌, if◌then◌else◌, flat_map, codes}
use Rattle.std.specs.Char.{is_ascii_alphanumeric}
use Rattle.std.specs.List.{list_any}
use Rattle.percent_encoding.specs.Percent.{percent_encode_byte}
use Rattle.js_doc.specs.Pointer.{Tokens, token_text, pointer_text}

-- what stands in a fragment as it is, beside letters and digits
abbrev pub marks : List ℕ
marks = codes "-._~!$&'()*+,;=:@/?"

abbrev pub is_fragment_char : ℕ → Bool
is_fragment_char b = is_ascii_alphanumeric b || list_any (λ m. b == m) marks

-- every other byte is a `%` and two upper-case hexadecimal digits: the project's own choice of spelling
abbrev pub fragment_byte : ℕ → List ℕ
fragment_byte b = if is_fragment_char b then b ∷ [] else percent_encode_byte b

abbrev pub fragment_text : Tokens → List ℕ
fragment_text tokens = flat_map fragment_byte (pointer_text tokens)

-- of a token alone
abbrev pub fragment_token : List ℕ → List ℕ
fragment_token token = flat_map fragment_byte (token_text token)
