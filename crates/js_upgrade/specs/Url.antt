-- URIs, as `url` reads, joins and prints them (RFC 3986; URL Standard).
use Rattle.std.specs.Prelude.{ℕ, [], Option, Some, None, Ok, Err, unwrap_or, length, nat_lt}
use Rattle.std.specs.Prelude.{if◌then◌else◌}
use Rattle.std.specs.Str.{is_utf8}
use Rattle.percent_encoding.specs.Percent.{percent_decode}
use Rattle.url.specs.Parts.{Parts, serialize}
use Rattle.url.specs.Parser.{Parsed, parse_url}
use Rattle.url.specs.Setters.{set_fragment}
use Rattle.js_doc.specs.Pointer.{Tokens}
use Rattle.js_doc.specs.PointerReading.{pointer_of}
use Rattle.js_doc.specs.Value.{Text}

-- no URI, identifier or reference may have more bytes
abbrev pub uri_limit : ℕ
uri_limit = 65536

abbrev pub uri_parsed : Parsed Parts → Option Parts
uri_parsed (Ok uri) = Some uri
uri_parsed (Err fault) = None

-- a text joined with a base; none if it is too long, or can't be joined
abbrev pub uri_joined : Parts → Text → Option Parts
uri_joined base t = if nat_lt uri_limit (length t) then None else uri_parsed (parse_url (Some base) t)

-- the URI without its fragment
unfoldable pub uri_without_fragment : Parts → Parts
uri_without_fragment uri = set_fragment uri None

-- its text
unfoldable pub uri_printed : Parts → Text
uri_printed uri = serialize uri

-- its fragment, percent-decoded (RFC 3986, section 2.1)
abbrev pub uri_fragment_decoded : Parts → Text
uri_fragment_decoded uri = percent_decode (unwrap_or uri.fragment [])

-- the pointer that a fragment is (RFC 6901, section 6); none where it is a name, or no text
abbrev pub fragment_pointer : Parts → Option Tokens
fragment_pointer uri = if is_utf8 (uri_fragment_decoded uri) then pointer_of (uri_fragment_decoded uri) else None
