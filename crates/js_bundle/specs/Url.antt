-- URIs, as `url` reads, joins and prints them (RFC 3986; URL Standard).
use Rattle.std.specs.Prelude.{ℕ, [], ◌∷◌, Bool, true, false, Option, Some, None, Ok, Err, unwrap_or}
use Rattle.percent_encoding.specs.Percent.{percent_decode}
use Rattle.url.specs.Parts.{Parts, serialize}
use Rattle.url.specs.Parser.{Parsed, parse_url}
use Rattle.url.specs.Setters.{set_fragment}
use Rattle.js_bundle.specs.Keyword.{Text}

-- no URI, `$id` or reference may have more bytes
abbrev pub longest_uri : ℕ
longest_uri = 65536

-- the URI without its fragment
unfoldable pub without_fragment : Parts → Parts
without_fragment uri = set_fragment uri None

-- its text
unfoldable pub printed : Parts → Text
printed uri = serialize uri

-- its fragment as it stands, without the `#`; empty where there is none
abbrev pub raw_fragment : Parts → Text
raw_fragment uri = unwrap_or uri.fragment []

-- its fragment, percent-decoded (RFC 3986, section 2.1)
abbrev pub decoded_fragment : Parts → Text
decoded_fragment uri = percent_decode (raw_fragment uri)

-- the URI, where the text was one
abbrev pub parsed : Parsed Parts → Option Parts
parsed (Ok uri) = Some uri
parsed (Err fault) = None

-- the absolute URI that a text is
abbrev pub uri_of : Text → Option Parts
uri_of t = parsed (parse_url None t)

-- no text at all
abbrev pub is_empty : Text → Bool
is_empty [] = true
is_empty (b ∷ bs) = false
