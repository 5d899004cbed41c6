-- What is refused, in order (JSON Schema Core, sections 4.3, 8 and 9.1): first each place with its keywords, then each
-- reference. Each rule is a line.
use Rattle.std.specs.Prelude.{◌≡◌, ℕ, List, [], ◌∷◌, ◌++◌, length, Bool, true, false, not, ◌&&◌, ◌||◌, Option, Some}
use Rattle.std.specs.Prelude.{None, is_none, Ok, Err, nat_lt, nat_le, codes, bytes_eq, flat_map, ◌⊎◌, if◌then◌else◌}
use Rattle.std.specs.List.{list_any}
use Rattle.url.specs.Parts.{Parts}
use Rattle.url.specs.Parser.{Parsed, parse_url}
use Rattle.js_doc.specs.Pointer.{Tokens}
use Rattle.js_doc.specs.Value.{Value, text}
use Rattle.js_doc.specs.Parts.{members_of}
use Rattle.js_keyword.specs.declared.keyword.Keyword.{Keyword}
use Rattle.js_keyword.specs.declared.keyword.Keyword.TheVariants.{Other}
use Rattle.js_keyword.specs.declared.other_keyword.OtherKeyword.TheVariants.{Schema, Id, Anchor, DynamicAnchor}
use Rattle.js_keyword.specs.Keyword.{which_keyword}
use Rattle.js_assert.specs.Shape as assertion
use Rattle.js_assert.specs.Pattern.{is_in_grammar, nests_too_deep}
use Rattle.js_bundle.specs.declared.refusal.Refusal.{Refusal}
use Rattle.js_bundle.specs.declared.refusal.RefusalKind.{RefusalKind}
use Rattle.js_bundle.specs.declared.refusal.RefusalKind.TheVariants.{Memory, UriTooLong, NotASchema, BadKeyword}
use Rattle.js_bundle.specs.declared.refusal.RefusalKind.TheVariants.{BadPattern, PatternTooLarge, BadId, BadAnchor}
use Rattle.js_bundle.specs.declared.refusal.RefusalKind.TheVariants.{UnknownDialect, DuplicateUri, DuplicateAnchor}
use Rattle.js_bundle.specs.declared.refusal.RefusalKind.TheVariants.{TooManyPlaces, BadReference, Unresolved}
use Rattle.js_bundle.specs.declared.check.fault.CheckFault.{CheckFault}
use Rattle.js_bundle.specs.declared.check.fault.CheckFault.TheVariants as fault
use Rattle.js_bundle.specs.Candidate.{Candidate, IsFirst, decided_in}
use Rattle.js_bundle.specs.Document.{Documents}
use Rattle.js_bundle.specs.Keyword.{Text, text_argument}
use Rattle.js_bundle.specs.Url.{is_empty, longest_uri, without_fragment, printed, raw_fragment, decoded_fragment}
use Rattle.js_bundle.specs.Resource.{Site, sites}
use Rattle.js_bundle.specs.Names.{is_root, is_known_as, belongs_to, makes, is_read, named, is_anchor_name}
use Rattle.js_bundle.specs.Shape.{is_schema, is_shaped}

-- ---- a line of the list

-- the refusal at a place, or further on at a keyword of it
abbrev pub refusal_at : Site → Tokens → RefusalKind → Refusal
refusal_at place further kind = record { document = place.document; place = place.pointer ++ further; kind = kind }

abbrev pub decided : Site → Tokens → RefusalKind → List Candidate
decided place further kind = record { refusal = refusal_at place further kind; decided = true; allowed = false } ∷ []

abbrev pub given : Bool → Site → Tokens → RefusalKind → List Candidate
given allowed place further kind =
    record { refusal = refusal_at place further kind; decided = false; allowed = allowed } ∷ []

abbrev pub when : Bool → List Candidate → List Candidate
when condition candidates = if condition then candidates else []

abbrev pub is : Text → Text → Bool
is keyword name = bytes_eq keyword name

-- ---- the first pass: places in scan order; `before` are those that the scan lists before

abbrev pub most_places : ℕ
most_places = 100000

-- a resource before has this URI
abbrev pub is_taken : List Site → Parts → Bool
is_taken before uri = list_any (is_known_as (printed uri)) before

-- a place before, in the same resource, has this name, by whichever keyword
abbrev pub is_made : List Site → Site → Text → Bool
is_made before place name =
    list_any (λ t. belongs_to place.document place.own.resource t
    && (makes (codes "$anchor") name t || makes (codes "$dynamicAnchor") name t)) before

-- of a place itself
abbrev pub at_place : List Site → Site → List Candidate
at_place before place =
    when (nat_le most_places (length before)) (decided place [] TooManyPlaces)
    ++ (when (not (is_schema place.schema)) (decided place [] NotASchema)
    ++ when (is_root place && is_taken before place.above.base) (decided place [] DuplicateUri))

-- of an `$id`, joined with the base above its place (section 8.2.1)
abbrev pub at_joined_id : List Site → Site → Tokens → Parsed Parts → List Candidate
at_joined_id before place further (Err fault) = decided place further BadId
at_joined_id before place further (Ok uri) =
    if is_empty (raw_fragment uri) then when (is_taken before (without_fragment uri))
    (decided place further DuplicateUri) else decided place further BadId

abbrev pub at_id : List Site → Site → Tokens → Text → List Candidate
at_id before place further t =
    if nat_lt longest_uri (length t) then decided place further UriTooLong
    else at_joined_id before place further (parse_url (Some place.above.base) t)

-- of an anchor of either kind (section 8.2.2)
abbrev pub at_anchor : List Site → Site → Tokens → Text → List Candidate
at_anchor before place further name =
    if is_anchor_name name then when (is_made before place name) (decided place further DuplicateAnchor) else decided
    place further BadAnchor

-- of `$schema` (section 8.1.1): one dialect is served
abbrev pub is_dialect : Text → Bool
is_dialect t = bytes_eq t (codes "https://json-schema.org/draft/2020-12/schema")
    || bytes_eq t (codes "https://json-schema.org/draft/2020-12/schema#")

abbrev pub at_dialect : Site → Tokens → Text → List Candidate
at_dialect place further t = when (not (is_dialect t)) (decided place further UnknownDialect)

abbrev pub on_text : (Text → List Candidate) → Value → List Candidate
on_text rule (text t) = rule t
on_text rule _ = []

-- Of a pattern: one that the grammar of `regex` doesn't read is refused. So is one that nests too deep, then or later,
-- and one that is too large may be.
abbrev pub at_pattern : Site → Tokens → Text → List Candidate
at_pattern place further t =
    if is_in_grammar t then (if nests_too_deep t then given false place further BadPattern else given true place
    further PatternTooLarge)
    else decided place further BadPattern

-- of an assertion: the shape of its argument, and of `pattern` its pattern (JSON Schema Validation, section 6)
abbrev pub assertion_rules : Site → Text → Value → List Candidate
assertion_rules place k argument =
    when (not (assertion.has_shape k argument)) (decided place (k ∷ []) BadKeyword)
    ++ (if is k (codes "pattern") then on_text (at_pattern place (k ∷ [])) argument else [])

-- of a text argument, by its keyword
abbrev pub rules_of_text : List Site → Site → Tokens → Text → Keyword → List Candidate
rules_of_text before place further t (Other Schema) = at_dialect place further t
rules_of_text before place further t (Other Id) = at_id before place further t
rules_of_text before place further t (Other Anchor) = at_anchor before place further t
rules_of_text before place further t (Other DynamicAnchor) = at_anchor before place further t
rules_of_text before place further t _ = []

abbrev pub text_rules : List Site → Site → Text → Text → List Candidate
text_rules before place k t = rules_of_text before place (k ∷ []) t (which_keyword k)

-- of `patternProperties`: its names are patterns (section 10.3.2.2)
abbrev pub name_rules : Site → Text → Value → List Candidate
name_rules place k argument =
    if is k (codes "patternProperties") then flat_map (λ n. at_pattern place (k ∷ n.0 ∷ []) n.0)
    (members_of argument) else []

-- of a keyword, its shape first
abbrev pub at_member : List Site → Site → Text × Value → List Candidate
at_member before place m =
    when (not (is_shaped m.0 m.1)) (decided place (m.0 ∷ []) BadKeyword)
    ++ (assertion_rules place m.0 m.1 ++ (on_text (text_rules before place m.0) m.1 ++ name_rules place m.0 m.1))

-- of a place and its keywords
abbrev pub at_site : List Site → Site → List Candidate
at_site before place = at_place before place ++ flat_map (at_member before place) (members_of place.schema)

abbrev pub first_pass : List Site → List Site → List Candidate
first_pass before [] = []
first_pass before (place ∷ rest) = at_site before place ++ first_pass (before ++ place ∷ []) rest

-- ---- the second pass: references, by place in scan order (section 8.2.3)

abbrev pub at_joined_reference : List Site → Site → Tokens → Parsed Parts → List Candidate
at_joined_reference all place further (Err fault) = decided place further BadReference
at_joined_reference all place further (Ok uri) =
    if is_read (decoded_fragment uri) then when (is_none (named all uri)) (decided place further Unresolved) else
    decided place further BadReference

abbrev pub at_reference_text : List Site → Site → Tokens → Option Text → List Candidate
at_reference_text all place further None = []
at_reference_text all place further (Some t) =
    if nat_lt longest_uri (length t) then decided place further UriTooLong
    else at_joined_reference all place further (parse_url (Some place.own.base) t)

abbrev pub at_reference : List Site → Text → Site → List Candidate
at_reference all keyword place = at_reference_text all place (keyword ∷ []) (text_argument keyword place.schema)

abbrev pub at_references : List Site → Site → List Candidate
at_references all place = at_reference all (codes "$dynamicRef") place ++ at_reference all (codes "$ref") place

abbrev pub second_pass : List Site → List Candidate
second_pass all = flat_map (at_references all) all

-- ---- the whole

abbrev pub candidates : Documents → List Candidate
candidates documents = first_pass [] (sites documents) ++ second_pass (sites documents)

-- the refusals of a list of documents: the first of them is answered
abbrev pub refusals : Documents → List Refusal
refusals documents = decided_in (candidates documents)

-- want of memory is recorded of no place
abbrev pub no_memory : Refusal
no_memory = record { document = 0; place = []; kind = Memory }

-- documents that are checked whole may be refused so: want of memory may come at any time
abbrev pub IsRefusalOf : Documents → Refusal → Type 0
IsRefusalOf documents r = (r ≡ no_memory) ⊎ IsFirst (candidates documents) r

-- ---- words for the parts

-- the refusal that is recorded of a check's fault
abbrev pub refusal_of : CheckFault → Refusal
refusal_of fault.Memory = no_memory
refusal_of (fault.Refused r) = r
