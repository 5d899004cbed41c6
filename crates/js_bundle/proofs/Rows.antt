-- The definitions on documents written out: each line is a worked example, and holds by computation.
use Rattle.std.proofs.Common.{◌≡◌, ℕ, pos, List, [], ◌∷◌, ◌++◌, map, true, false, Option, Some}
use Rattle.std.proofs.Common.{None, option_map, option_and_then, codes, refl}
use Rattle.std.specs.List.{last_or, filter_map}
use Rattle.url.proofs.OnLiterals.{url_on_literals}
use Rattle.url.specs.Parser.{parse_url}
use Rattle.url.specs.Parts.{Parts}
use Rattle.js_doc.specs.Pointer.{Tokens}
use Rattle.js_doc.specs.Value.{Value, truth, text, list, object, items, members, whole}
use Rattle.js_keyword.specs.AssertionKeyword.{keyword_named}
use Rattle.js_bundle.specs.declared.refusal.Refusal.{Refusal}
use Rattle.js_bundle.specs.declared.refusal.RefusalKind.{RefusalKind}
use Rattle.js_bundle.specs.declared.refusal.RefusalKind.TheVariants.{BadKeyword, NotASchema, BadId, BadAnchor}
use Rattle.js_bundle.specs.declared.refusal.RefusalKind.TheVariants.{DuplicateUri, DuplicateAnchor, UnknownDialect}
use Rattle.js_bundle.specs.declared.refusal.RefusalKind.TheVariants.{Unresolved, BadReference}
use Rattle.js_bundle.specs.Document.{Documents}
use Rattle.js_bundle.specs.Keyword.{Text}
use Rattle.js_bundle.specs.Url.{printed, without_fragment, parsed}
use Rattle.js_keyword.specs.Keyword.{which_keyword}
use Rattle.js_bundle.specs.Place.{holding}
use Rattle.js_bundle.specs.Resource.{Site, sites}
use Rattle.js_bundle.specs.Names.{named}
use Rattle.js_bundle.specs.Location.{absolute_location}
use Rattle.js_bundle.specs.Target.{ref_target, dynamic_ref_target}
use Rattle.js_bundle.specs.Refusals.{refusals}

abbrev at_uri : Option Parts → Value → Documents
at_uri (Some uri) root = record { uri = uri; root = root } ∷ []
at_uri None root = []

abbrev document : Text → Value → Documents
document uri root = at_uri (parsed (parse_url None uri)) root

abbrev obj : List (Text × Value) → Value
obj ms = object (members ms)

abbrev head : List Refusal → Option Refusal
head [] = None
head (r ∷ rs) = Some r

abbrev first_refusal : Documents → Option Refusal
first_refusal ds = head (refusals ds)

abbrev locations : Documents → List Text
locations ds = map (λ p. absolute_location p []) (sites ds)

abbrev at_location : Documents → Text → Option Site
at_location ds t = option_and_then (named (sites ds)) (parsed (parse_url None t))

-- the location of the place that a URI names
abbrev location_of : Documents → Text → Option Text
location_of ds t = option_map (λ p. absolute_location p []) (at_location ds t)

-- that of the dynamic target of the last place of a path
abbrev dynamic_location : Documents → List Text → Option Text
dynamic_location ds ts =
    let path = filter_map (at_location ds) ts in
    option_and_then (λ place.
    option_map (λ t. absolute_location t []) (dynamic_ref_target (sites ds) path place)) (last_or None path)

-- ---- members of schemas

abbrev says : Text → Text → Text × Value
says keyword argument = (keyword, text argument)

abbrev defines : List (Text × Value) → Text × Value
defines schemas = (codes "$defs", obj schemas)

-- a schema that has the name `n` by this keyword, and is met by this number alone
abbrev constant : Text → ℕ → Value
constant keyword number = obj (says keyword (codes "n") ∷ (codes "const", whole (pos number)) ∷ [])

-- ---- places, names and targets

abbrev alone : Value → Documents
alone root = document (codes "https://a.example/s") root

abbrev embedded : Documents
embedded = alone (obj
    (defines ((codes "p", obj (says (codes "$id") (codes "y") ∷ (codes "not", truth true) ∷ [])) ∷ [])
    ∷ says (codes "$id") (codes "x")
    ∷ (codes "allOf", list (items ((obj (says (codes "$anchor") (codes "q") ∷ [])) ∷ []))) ∷ []))

abbrev tree_properties : Value
tree_properties =
    let children = obj (says (codes "$dynamicRef") (codes "#node") ∷ []) in
    let list_of_trees = obj ((codes "items", children) ∷ says (codes "type") (codes "array") ∷ []) in
    obj ((codes "children", list_of_trees) ∷ (codes "data", truth true) ∷ [])

abbrev trees : Documents
trees = document (codes "https://example.com/tree")
    (obj (says (codes "$dynamicAnchor") (codes "node") ∷ says (codes "$id") (codes "https://example.com/tree")
    ∷ (codes "properties", tree_properties) ∷ says (codes "type") (codes "object") ∷ []))
    ++ document (codes "https://example.com/strict-tree")
    (obj (says (codes "$dynamicAnchor") (codes "node") ∷ says (codes "$id") (codes "https://example.com/strict-tree")
    ∷ says (codes "$ref") (codes "tree") ∷ (codes "unevaluatedProperties", truth false) ∷ []))

-- a document in which a schema of this type has the dynamic name `n`
abbrev scope : Text → Text → Text × Value → Documents
scope uri wanted reference =
    let named_schema = obj (says (codes "$dynamicAnchor") (codes "n") ∷ says (codes "type") wanted ∷ []) in
    document uri (obj (defines ((codes "x", named_schema) ∷ []) ∷ reference ∷ []))

abbrev scopes : Documents
scopes = scope (codes "https://a.example/s") (codes "integer") (says (codes "$ref") (codes "m"))
    ++ scope (codes "https://a.example/m") (codes "null") (says (codes "$ref") (codes "l"))
    ++ scope (codes "https://a.example/l") (codes "string") (says (codes "$dynamicRef") (codes "#n"))
    ++ document (codes "https://a.example/t") (obj (says (codes "$dynamicRef") (codes "l#n") ∷ []))

-- a document with a schema that has the dynamic name `n`, and a resource with one that has the name by this keyword
abbrev within : Text → Text → Text → Documents
within at keyword reference =
    let resource = obj (defines ((codes "x", constant keyword 1) ∷ []) ∷ says (codes "$id") (codes "y") ∷ []) in
    alone (obj (defines ((at, constant (codes "$dynamicAnchor") 2) ∷ (codes "y", resource) ∷ [])
    ∷ says (codes "$dynamicRef") reference ∷ []))

abbrev pointed : Documents
pointed = within (codes "o") (codes "$dynamicAnchor") (codes "y#/$defs/x")

abbrev plain : Documents
plain = within (codes "a") (codes "$anchor") (codes "y#n")

abbrev passed_over : Documents
passed_over =
    let inner = obj (says (codes "$dynamicAnchor") (codes "n") ∷ []) in
    let resource = obj (defines ((codes "x", inner) ∷ []) ∷ says (codes "$dynamicRef") (codes "#n")
    ∷ says (codes "$id") (codes "l") ∷ []) in
    alone (obj (defines ((codes "a", obj (says (codes "$anchor") (codes "n") ∷ [])) ∷ (codes "l", resource) ∷ [])
    ∷ says (codes "$ref") (codes "l") ∷ []))

-- a resource within a resource: where the schemas stand
pub embedded_locations : locations embedded ≡ codes "https://a.example/x#" ∷ codes "https://a.example/y#"
    ∷ codes "https://a.example/y#/not" ∷ codes "https://a.example/x#/allOf/0" ∷ []
unfolding url_on_literals holding which_keyword printed without_fragment
embedded_locations = refl

-- URIs, and the location of what each names in these documents
abbrev named_rows : List (Text × Option Text)
named_rows =
    -- a pointer may cross into a resource within
    (codes "https://a.example/s#/$defs/p", Some (codes "https://a.example/y#")) ∷
    -- which is the same place as its URI names
    (codes "https://a.example/y", Some (codes "https://a.example/y#")) ∷
    -- a pointer begins at the root of its resource
    (codes "https://a.example/y#/not", Some (codes "https://a.example/y#/not")) ∷
    -- a root is known by its document's URI too
    (codes "https://a.example/s#q", Some (codes "https://a.example/x#/allOf/0")) ∷
    -- and not from the document's root
    (codes "https://a.example/y#/$defs/p", None) ∷
    []

pub names_are : map (λ row. location_of embedded row.0) named_rows ≡ map (λ row. row.1) named_rows
unfolding url_on_literals holding which_keyword printed without_fragment
names_are = refl

-- documents, a path in them, and where the dynamic reference of its last place leads
abbrev dynamic_rows : List (Documents × List Text × Text)
dynamic_rows =
    -- the tree alone: its own anchor
    (
      trees,
      codes "https://example.com/tree" ∷ codes "https://example.com/tree#/properties/children"
          ∷ codes "https://example.com/tree#/properties/children/items" ∷ [],
      codes "https://example.com/tree#",
    ) ∷
    -- from the strict tree: the outermost resource that has the name
    (
      trees,
      codes "https://example.com/strict-tree" ∷ codes "https://example.com/tree"
          ∷ codes "https://example.com/tree#/properties/children"
          ∷ codes "https://example.com/tree#/properties/children/items" ∷ [],
      codes "https://example.com/strict-tree#",
    ) ∷
    -- four entries, four scopes
    (
      scopes,
      codes "https://a.example/s" ∷ codes "https://a.example/m" ∷ codes "https://a.example/l"
          ∷ [],
      codes "https://a.example/s#/$defs/x",
    ) ∷
    -- from the second document
    (scopes, codes "https://a.example/m" ∷ codes "https://a.example/l" ∷ [], codes "https://a.example/m#/$defs/x") ∷
    -- from the third
    (scopes, codes "https://a.example/l" ∷ [], codes "https://a.example/l#/$defs/x") ∷
    -- from one that has no such name: the first target stands
    (scopes, codes "https://a.example/t" ∷ [], codes "https://a.example/l#/$defs/x") ∷
    -- a pointer is never dynamic
    (pointed, codes "https://a.example/s" ∷ [], codes "https://a.example/y#/$defs/x") ∷
    -- nor is a name by `$anchor` alone
    (plain, codes "https://a.example/s" ∷ [], codes "https://a.example/y#/$defs/x") ∷
    -- a resource of the path that has the name by `$anchor` alone is passed over
    (passed_over, codes "https://a.example/s" ∷ codes "https://a.example/l" ∷ [], codes "https://a.example/l#/$defs/x")
    ∷
    []

pub dynamic_targets_are : map (λ row. dynamic_location row.0 row.1) dynamic_rows ≡ map (λ row. Some row.2) dynamic_rows
unfolding url_on_literals holding which_keyword printed without_fragment
dynamic_targets_are = refl

-- `$ref` leads to one place
pub target_of_ref : option_and_then (λ place. option_map (λ t. absolute_location t []) (ref_target (sites trees) place))
    (at_location trees (codes "https://example.com/strict-tree")) ≡ Some (codes "https://example.com/tree#")
unfolding url_on_literals holding which_keyword printed without_fragment
target_of_ref = refl

-- ---- refusals

abbrev refused : ℕ → Tokens → RefusalKind → Option Refusal
refused document place kind = Some (record { document = document; place = place; kind = kind })

-- documents, and the first refusal of them
abbrev refusal_rows : List (Documents × Option Refusal)
refusal_rows =
    -- an empty list of types
    (alone (obj ((codes "type", list (items [])) ∷ [])), refused 0 (codes "type" ∷ []) BadKeyword) ∷
    -- a place's keywords come before the places below it
    (
      alone (obj ((codes "not", whole (pos 3)) ∷ (codes "type", list (items [])) ∷ [])),
      refused 0
          (codes "type" ∷ []) BadKeyword,
    ) ∷
    -- an `$id` inside `enum` identifies nothing
    (
      alone (obj ((codes "$ref", text (codes "https://a.example/x"))
          ∷ (codes "enum", list (items ((obj ((codes "$id", text (codes "https://a.example/x")) ∷ [])) ∷ []))) ∷ [])),
      refused 0 (codes "$ref" ∷ []) Unresolved,
    ) ∷
    -- an `$id` has no fragment
    (alone (obj ((codes "$id", text (codes "x#y")) ∷ [])), refused 0 (codes "$id" ∷ []) BadId) ∷
    -- a number is no schema
    (alone (obj ((codes "not", whole (pos 3)) ∷ [])), refused 0 (codes "not" ∷ []) NotASchema) ∷
    -- two resources have one URI: the second carries it
    (
      alone (obj ((codes "$id", text (codes "https://a.example/x")) ∷ [])) ++ document (codes "https://a.example/t")
          (obj ((codes "$id", text (codes "https://a.example/x")) ∷ [])),
      refused 1 (codes "$id" ∷ []) DuplicateUri,
    ) ∷
    -- one name at two places of a resource, by either keyword
    (
      alone (obj ((codes "$anchor", text (codes "a")) ∷ (
        codes "not",
        obj ((codes "$dynamicAnchor", text (codes "a"))
            ∷ []),
      ) ∷ [])),
      refused 0 (codes "not" ∷ codes "$dynamicAnchor" ∷ []) DuplicateAnchor,
    ) ∷
    -- one place may make a name by both keywords
    (alone (obj ((codes "$anchor", text (codes "a")) ∷ (codes "$dynamicAnchor", text (codes "a")) ∷ [])), None) ∷
    -- another dialect
    (alone (obj ((codes "$schema", text (codes "x")) ∷ [])), refused 0 (codes "$schema" ∷ []) UnknownDialect) ∷
    -- a place with an `$id` that is no text is a resource of its own, so its anchor is no duplicate
    (
      alone (obj ((codes "$anchor", text (codes "a")) ∷ (
        codes "not",
        obj ((codes "$anchor", text (codes "a"))
            ∷ (codes "$id", whole (pos 3)) ∷ []),
      ) ∷ [])),
      refused 0 (codes "not" ∷ codes "$id" ∷ []) BadKeyword,
    ) ∷
    -- a root whose `$id` joins to its own URI is one resource
    (alone (obj ((codes "$id", text (codes "https://a.example/s")) ∷ [])), None) ∷
    -- a name begins with a letter or `_`
    (alone (obj ((codes "$anchor", text (codes "1a")) ∷ [])), refused 0 (codes "$anchor" ∷ []) BadAnchor) ∷
    -- an opaque base joins only a fragment
    (document (codes "urn:a:b") (obj ((codes "$id", text (codes "x")) ∷ [])), refused 0 (codes "$id" ∷ []) BadId) ∷
    -- also not the empty text
    (document (codes "urn:a:b") (obj ((codes "$id", text (codes "")) ∷ [])), refused 0 (codes "$id" ∷ []) BadId) ∷
    -- nor as a reference
    (
      document (codes "urn:a:b") (obj ((codes "$ref", text (codes "")) ∷ [])),
      refused 0
          (codes "$ref" ∷ []) BadReference,
    ) ∷
    -- a fragment is fine there
    (
      document (codes "urn:a:b") (obj
          ((codes "$defs", obj ((codes "x", truth true) ∷ [])) ∷ (codes "$ref", text (codes "#/$defs/x")) ∷ [])),
      None,
    ) ∷
    -- `url` drops a tab, in a fragment too
    (
      alone (obj ((codes "$defs", obj ((codes "ab", truth true) ∷ []))
          ∷ (codes "$ref", text (codes "#/$defs/a\tb")) ∷ [])),
      None,
    ) ∷
    -- a fragment is decoded before it is taken for a name
    (alone (obj ((codes "$anchor", text (codes "a")) ∷ (codes "$ref", text (codes "#%61")) ∷ [])), None) ∷
    -- or for a pointer
    (
      alone (obj ((codes "$defs", obj ((codes "a", obj ((codes "const", whole (pos 1)) ∷ [])) ∷ []))
          ∷ (codes "$ref", text (codes "#/$defs/%61")) ∷ [])),
      None,
    ) ∷
    -- `~2` is no escape of a pointer
    (alone (obj ((codes "$ref", text (codes "#/~2")) ∷ [])), refused 0 (codes "$ref" ∷ []) BadReference) ∷
    -- a fragment that is no text
    (alone (obj ((codes "$ref", text (codes "#%FF")) ∷ [])), refused 0 (codes "$ref" ∷ []) BadReference) ∷
    -- no host
    (alone (obj ((codes "$ref", text (codes "http://[")) ∷ [])), refused 0 (codes "$ref" ∷ []) BadReference) ∷
    -- no such name
    (alone (obj ((codes "$ref", text (codes "#%")) ∷ [])), refused 0 (codes "$ref" ∷ []) Unresolved) ∷
    -- nothing stands there
    (alone (obj ((codes "$ref", text (codes "#/01")) ∷ [])), refused 0 (codes "$ref" ∷ []) Unresolved) ∷
    -- a list of schemas is no place
    (
      alone (obj ((codes "$ref", text (codes "#/allOf")) ∷ (codes "allOf", list (items ((truth true) ∷ []))) ∷ [])),
      refused 0 (codes "$ref" ∷ []) Unresolved,
    ) ∷
    -- `-` names no item
    (
      alone (obj ((codes "$ref", text (codes "#/prefixItems/-"))
          ∷ (codes "prefixItems", list (items ((truth true) ∷ []))) ∷ [])),
      refused 0 (codes "$ref" ∷ []) Unresolved,
    ) ∷
    -- of two references `$dynamicRef` comes first
    (
      alone (obj ((codes "$dynamicRef", text (codes "#x")) ∷ (codes "$ref", text (codes "#y")) ∷ [])),
      refused 0
          (codes "$dynamicRef" ∷ []) Unresolved,
    ) ∷
    -- a reference may lead to its own place
    (alone (obj ((codes "$ref", text (codes "#")) ∷ [])), None) ∷
    -- a reference by anchor
    (
      alone (obj ((
        codes "$defs",
        obj ((
          codes "x",
          obj ((codes "$anchor", text (codes "q"))
              ∷ (codes "const", whole (pos 1)) ∷ []),
        ) ∷ []),
      ) ∷ (codes "$ref", text (codes "#q")) ∷ [])),
      None,
    ) ∷
    -- two documents under one URI
    (alone (truth true) ++ alone (truth true), refused 1 [] DuplicateUri) ∷
    []

pub refusals_are : map (λ row. first_refusal row.0) refusal_rows ≡ map (λ row. row.1) refusal_rows
unfolding url_on_literals holding which_keyword printed without_fragment keyword_named
refusals_are = refl
