-- Which place a URI names (JSON Schema Core, sections 8.2.1, 8.2.2 and 9.2.1): the URI without its fragment is that of
-- a resource, and the fragment is a pointer from the resource's root, or a name that a place of the resource makes.
use Rattle.std.specs.Prelude.{ℕ, List, [], ◌∷◌, ◌++◌, Bool, true, false, ◌&&◌, ◌||◌, ◌==◌, nat_le, not}
use Rattle.std.specs.Prelude.{Option, is_some, codes, bytes_eq, find, if◌then◌else◌}
use Rattle.std.specs.List.{list_any, list_all}
use Rattle.std.specs.Option.{option_map_or}
use Rattle.std.specs.Str.{is_utf8}
use Rattle.std.specs.Cmp.Lexicographic.{pointwise}
use Rattle.url.specs.Parts.{Parts}
use Rattle.js_doc.specs.Pointer.{Tokens}
use Rattle.js_doc.specs.PointerReading.{pointer_of}
use Rattle.js_bundle.specs.Keyword.{Text, text_argument}
use Rattle.js_bundle.specs.Url.{without_fragment, printed, decoded_fragment}
use Rattle.js_bundle.specs.Resource.{Site}

abbrev pub same_tokens : Tokens → Tokens → Bool
same_tokens = pointwise bytes_eq

-- ---- the URIs of resources

abbrev pub is_root : Site → Bool
is_root place = same_tokens place.pointer []

-- The URIs by which a place is known as the root of a resource: of a document's root the document's URI, and of each
-- place what its `$id` makes.
abbrev pub known_as : Site → List Text
known_as place =
    (if is_root place then printed place.above.base ∷ [] else [])
    ++ (if place.identifies then printed place.own.base ∷ [] else [])

abbrev pub is_known_as : Text → Site → Bool
is_known_as uri place = list_any (bytes_eq uri) (known_as place)

-- the root of the resource that a URI is of, its fragment aside
abbrev pub root_named : List Site → Parts → Option Site
root_named all uri = find (is_known_as (printed (without_fragment uri))) all

-- ---- the three ways to name a place in a resource (section 8.2.2 for the two anchors)

-- the place stands at a pointer of a document
abbrev pub stands_at : ℕ → Tokens → Site → Bool
stands_at document pointer place = place.document == document && same_tokens place.pointer pointer

-- the place's resource has its root at a pointer of a document
abbrev pub belongs_to : ℕ → Tokens → Site → Bool
belongs_to document root place = place.document == document && same_tokens place.own.resource root

-- the place makes the name by this keyword
abbrev pub makes : Text → Text → Site → Bool
makes keyword name place = option_map_or (bytes_eq name) (text_argument keyword place.schema) false

-- the fragment is a pointer from the resource's root; it may cross into a resource within
abbrev pub by_pointer : Site → Text → Site → Bool
by_pointer root f = option_map_or (λ tokens. stands_at root.document (root.pointer ++ tokens))
    (pointer_of f) (λ _. false)

abbrev pub by_anchor : Site → Text → Site → Bool
by_anchor root f place = belongs_to root.document root.pointer place && makes (codes "$anchor") f place

abbrev pub by_dynamic_anchor : Site → Text → Site → Bool
by_dynamic_anchor root f place = belongs_to root.document root.pointer place && makes (codes "$dynamicAnchor") f place

-- an empty fragment, or one that begins with `/`, is a pointer
abbrev pub is_pointer : Text → Bool
is_pointer [] = true
is_pointer (b ∷ bs) = b == 47

-- a fragment that is read: a text, and a pointer if it begins as one (RFC 6901, section 6)
abbrev pub is_read : Text → Bool
is_read f = is_utf8 f && (not (is_pointer f) || is_some (pointer_of f))

abbrev pub is_named_by : Site → Text → Site → Bool
is_named_by root f = if is_pointer f then by_pointer root f else
    (λ place. by_anchor root f place || by_dynamic_anchor root f place)

-- ---- the relation

-- the URI names the place
abbrev pub names : List Site → Parts → Site → Bool
names all uri = option_map_or (λ root. is_named_by root (decoded_fragment uri)) (root_named all uri) (λ _. false)

-- the place that the URI names
abbrev pub named : List Site → Parts → Option Site
named all uri = find (names all uri) all

-- ---- what may be the name of an anchor (section 8.2.2)

abbrev pub begins_name : ℕ → Bool
begins_name b = (nat_le 65 b && nat_le b 90) || ((nat_le 97 b && nat_le b 122) || b == 95)

abbrev pub continues_name : ℕ → Bool
continues_name b = begins_name b || ((nat_le 48 b && nat_le b 57) || (b == 45 || b == 46))

-- a letter or `_`, and then letters, digits, `-`, `_` and `.`
abbrev pub is_anchor_name : Text → Bool
is_anchor_name [] = false
is_anchor_name (b ∷ bs) = begins_name b && list_all continues_name bs
