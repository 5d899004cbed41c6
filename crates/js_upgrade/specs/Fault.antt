-- Why documents aren't upgraded: the first fault, where it stands, and its kind. First come the dialects and the
-- identifiers of all documents, then the documents' URIs, then the references of all documents, then each `contains`
-- that would evaluate. Documents come in order; a schema comes before those that it holds, and those by name or index
-- ascending.
use Rattle.std.specs.Prelude.{◌≡◌, ℕ, ◌+◌, List, [], ◌∷◌, Bool, true, false, Option, Some, None, codes, decimal, length}
use Rattle.std.specs.Prelude.{slice_get, unwrap_or, is_none, nat_lt, bytes_eq, option_map, option_and_then, not, ◌⊎◌}
use Rattle.std.specs.Prelude.{◌&&◌, if◌then◌else◌}
use Rattle.std.specs.List.{list_any}
use Rattle.url.specs.Parts.{Parts}
use Rattle.js_doc.specs.Members.{get, has_name}
use Rattle.js_doc.specs.Parts.{member_list, members_of}
use Rattle.js_doc.specs.Pointer.{Tokens}
use Rattle.js_doc.specs.Value.{Value, text, list, object, Items, no_items, item, Members, no_members, member}
use Rattle.js_doc.specs.Value.{Text, Named}
use Rattle.js_upgrade.specs.Copies.{Copies, copies_of, sources_with}
use Rattle.js_upgrade.specs.CopyName.{uncopied}
use Rattle.js_upgrade.specs.Dialect.{first_of, is_before}
use Rattle.js_upgrade.specs.Documents.{SourceDocument, Sources, all_resources, source_dialect}
use Rattle.js_upgrade.specs.Reference.{moved_in}
use Rattle.js_upgrade.specs.Resource.{Resource, own_base, recurses, resource_named}
use Rattle.js_upgrade.specs.Schema.{hides, holder, is_uri}
use Rattle.js_upgrade.specs.Upgrade.{dialect_in, holding_in, identifier, identifies, own_dialect}
use Rattle.js_upgrade.specs.Url.{fragment_pointer, uri_joined, uri_limit, uri_printed, uri_without_fragment}
use Rattle.js_upgrade.specs.declared.dialect.Dialect.{Dialect}
use Rattle.js_upgrade.specs.declared.dialect.Dialect.TheVariants.{Draft06, Draft07, Draft2019, Draft2020}
use Rattle.js_upgrade.specs.declared.fault.UpgradeFault.{UpgradeFault}
use Rattle.js_upgrade.specs.declared.fault.UpgradeFaultKind.{UpgradeFaultKind}
use Rattle.js_upgrade.specs.declared.fault.UpgradeFaultKind.TheVariants.{Memory, TooManyDocuments, UnknownDialect}
use Rattle.js_upgrade.specs.declared.fault.UpgradeFaultKind.TheVariants.{BadKeyword, UriTooLong, BadId, DuplicateUri}
use Rattle.js_upgrade.specs.declared.fault.UpgradeFaultKind.TheVariants.{BadReference, Unresolved}
use Rattle.js_upgrade.specs.declared.fault.Pass.{Pass}
use Rattle.js_upgrade.specs.declared.fault.Pass.TheVariants.{Names, References, Unevaluated, Contained, AnyOfThese}
use Rattle.js_upgrade.specs.declared.fault.Stop.{Stop}
use Rattle.js_upgrade.specs.declared.fault.Stop.TheVariants as stop
use Rattle.js_upgrade.specs.declared.holding.SchemaHolding.{SchemaHolding}
use Rattle.js_upgrade.specs.declared.holding.SchemaHolding.TheVariants.{One, Listed, Named as ByName, OneOrListed}

abbrev pub FaultKind : Type 0
FaultKind = UpgradeFaultKind

-- ---- what is wrong with a keyword

-- a `$schema` that names no dialect
abbrev pub no_dialect : Value → FaultKind
no_dialect (text t) = UnknownDialect
no_dialect _ = BadKeyword

abbrev pub unnamed : Value → Option Dialect → Option FaultKind
unnamed v None = Some (no_dialect v)
unnamed v (Some d) = None

abbrev pub dialect_kind : Option Value → Option FaultKind
dialect_kind None = None
dialect_kind (Some v) = unnamed v (dialect_in v)

-- an identifier that can't be joined with its base
abbrev pub joined_kind : Parts → Text → Option FaultKind
joined_kind base t =
    if nat_lt uri_limit (length t) then Some UriTooLong
    else (if is_none (uri_joined base t) then Some BadId else None)

-- an identifier that is no text
abbrev pub identifier_kind : Parts → Option Value → Option FaultKind
identifier_kind base None = None
identifier_kind base (Some (text t)) = if is_uri t then joined_kind base t else None
identifier_kind base (Some _) = Some BadKeyword

-- where a pointer's target in a resource goes, if it stands in the upgraded one; a name leads to the resource
abbrev pub part_at : Option Tokens → Resource → Option Tokens
part_at None r = Some []
part_at (Some tokens) r = moved_in r tokens

module _ (all : List Resource) where
  abbrev pub target_tokens : Parts → Option Tokens
  target_tokens uri =
      option_and_then (part_at (fragment_pointer uri)) (resource_named all (uri_printed (uri_without_fragment uri)))

  abbrev pub target_kind : Option Parts → Option FaultKind
  target_kind None = Some BadReference
  target_kind (Some uri) = if is_none (target_tokens uri) then Some Unresolved else None

  -- a reference that is no text, or leads nowhere
  abbrev pub reference_kind : Parts → Option Value → Option FaultKind
  reference_kind base None = None
  reference_kind base (Some (text t)) =
      if nat_lt uri_limit (length t) then Some UriTooLong else target_kind (uri_joined base t)
  reference_kind base (Some _) = Some BadKeyword

-- ---- in a schema

-- in a document: where, and why
pub record FoundFault : Type 0 where
  pub place : Tokens
  pub kind : FaultKind

abbrev pub at_keyword : Text → Option FaultKind → Option FoundFault
at_keyword keyword kind = option_map (λ k. record { place = keyword ∷ []; kind = k }) kind

-- further down, behind a token
abbrev pub deeper : Text → FoundFault → FoundFault
deeper token f = record { place = token ∷ f.place; kind = f.kind }

-- the schema's `$schema`, which counts beside an identifier
abbrev pub declared_kind : Dialect → Named → Option FaultKind
declared_kind d siblings = if identifies d siblings then dialect_kind (get (codes "$schema") siblings) else None

-- its identifier, unless a reference hides it
abbrev pub own_kind : Dialect → Parts → Named → Option FaultKind
own_kind own base siblings =
    if hides own siblings then None else identifier_kind base (get (identifier own) siblings)

-- its `$recursiveRef` (2019-09 Core, 8.2.4.2.1), which is `#`
abbrev pub recursion_kind : Option Value → Option FaultKind
recursion_kind None = None
recursion_kind (Some (text t)) = if bytes_eq t (codes "#") then None else Some BadReference
recursion_kind (Some _) = Some BadKeyword

abbrev pub recursive_kind : Dialect → Named → Option FaultKind
recursive_kind Draft2019 siblings = recursion_kind (get (codes "$recursiveRef") siblings)
recursive_kind _ siblings = None

-- its `contains` in 2019-09, beside each list of schemas in which it could stand
abbrev pub contains_kind : Dialect → Named → Option FaultKind
contains_kind Draft2019 siblings =
    if has_name (codes "contains") siblings && bytes_eq (holder siblings) (codes "contains") then Some BadKeyword
    else None
contains_kind _ siblings = None

-- a dynamic anchor with the name that `$recursiveAnchor` gets, where a resource has that
abbrev pub has_recursive_name : Option Value → Bool
has_recursive_name (Some (text t)) = bytes_eq t (codes "recursiveAnchor")
has_recursive_name _ = false

abbrev pub anchor_kind : List Resource → Dialect → Named → Option FaultKind
anchor_kind all Draft2020 siblings =
    if has_recursive_name (get (codes "$dynamicAnchor") siblings) && list_any recurses all then Some BadKeyword
    else None
anchor_kind all _ siblings = None

-- `unevaluatedItems` (2019-09 Core, 9.3.1.3; 2020-12 Core, 11.2)
abbrev pub unevaluated_kind : Dialect → Named → Option FaultKind
unevaluated_kind own siblings =
    if has_name (codes "unevaluatedItems") siblings && not (is_before own Draft2019) then Some BadKeyword else None

-- `contains` of draft-06 and draft-07 evaluates no items for it, and would in 2020-12 (Core, 10.3.1.3)
abbrev pub contains_only : Dialect → Bool
contains_only Draft06 = true
contains_only Draft07 = true
contains_only _ = false

abbrev pub contained_kind : Dialect → Named → Option FaultKind
contained_kind own siblings =
    if has_name (codes "contains") siblings && (contains_only own && not (hides own siblings)) then Some BadKeyword
    else None

-- what isn't `$ref`, of a schema in its own dialect
abbrev pub other_fault : List Resource → Dialect → Named → Option FoundFault
other_fault all own siblings =
    first_of (at_keyword (codes "$recursiveRef") (recursive_kind own siblings))
    (first_of (at_keyword (codes "contains") (contains_kind own siblings))
    (at_keyword (codes "$dynamicAnchor") (anchor_kind all own siblings)))

-- `d` and `base` are those around the schema, `own` and `below` its own
abbrev pub name_fault : Dialect → Dialect → Parts → Named → Option FoundFault
name_fault d own base siblings =
    first_of (at_keyword (codes "$schema") (declared_kind d siblings))
    (at_keyword (identifier own) (own_kind own base siblings))

abbrev pub reference_fault : List Resource → Dialect → Parts → Named → Option FoundFault
reference_fault all own below siblings =
    first_of (at_keyword (codes "$ref") (reference_kind all below (get (codes "$ref") siblings)))
    (other_fault all own siblings)

abbrev pub unevaluated_fault : Dialect → Named → Option FoundFault
unevaluated_fault own siblings = at_keyword (codes "unevaluatedItems") (unevaluated_kind own siblings)

abbrev pub schema_fault : Pass → List Resource → Dialect → Dialect → Parts → Parts → Named → Option FoundFault
schema_fault Names all d own base below siblings = name_fault d own base siblings
schema_fault References all d own base below siblings = reference_fault all own below siblings
schema_fault Unevaluated all d own base below siblings = unevaluated_fault own siblings
schema_fault Contained all d own base below siblings = at_keyword (codes "contains") (contained_kind own siblings)
schema_fault AnyOfThese all d own base below siblings =
    first_of (name_fault d own base siblings)
    (first_of (reference_fault all own below siblings) (unevaluated_fault own siblings))

-- ---- in a value that holds schemas

module _ (pass : Pass) (all : List Resource) where
  abbrev mutual
    pub fault_in : SchemaHolding → Dialect → Parts → Value → Option FoundFault
    fault_in One d base (object ms) =
        let own = own_dialect d (member_list ms) in
        let below = own_base own base (member_list ms) in
        first_of (schema_fault pass all d own base below (member_list ms))
        (member_fault (holding_in own (member_list ms)) own below ms)
    fault_in OneOrListed d base (object ms) =
        let own = own_dialect d (member_list ms) in
        let below = own_base own base (member_list ms) in
        first_of (schema_fault pass all d own base below (member_list ms))
        (member_fault (holding_in own (member_list ms)) own below ms)
    fault_in ByName d base (object ms) = member_fault (λ name. One) d base ms
    fault_in Listed d base (list vs) = item_fault d base 0 vs
    fault_in OneOrListed d base (list vs) = item_fault d base 0 vs
    fault_in _ d base v = None

    -- the first has the index n
    pub item_fault : Dialect → Parts → ℕ → Items → Option FoundFault
    item_fault d base n no_items = None
    item_fault d base n (item v vs) =
        first_of (option_map (deeper (decimal n)) (fault_in One d base v)) (item_fault d base (n + 1) vs)

    pub member_fault : (Text → SchemaHolding) → Dialect → Parts → Members → Option FoundFault
    member_fault held d base no_members = None
    member_fault held d base (member name v ms) =
        first_of (option_map (deeper name) (fault_in (held name) d base v)) (member_fault held d base ms)

-- ---- in documents

-- of a document's root, its `$schema`
abbrev pub root_kind : Value → Option FaultKind
root_kind root = dialect_kind (get (codes "$schema") (members_of root))

abbrev pub root_fault : Value → Option FoundFault
root_fault root = at_keyword (codes "$schema") (root_kind root)

abbrev pub fault_by_dialect : Pass → List Resource → SourceDocument → Option Dialect → Option FoundFault
fault_by_dialect pass all s None = root_fault s.root
fault_by_dialect pass all s (Some d) = fault_in pass all One d s.uri s.root

abbrev pub source_fault : Pass → List Resource → SourceDocument → Option FoundFault
source_fault pass all s = fault_by_dialect pass all s (source_dialect s)

abbrev pub in_document : ℕ → FoundFault → UpgradeFault
in_document n f = record { document = n; place = f.place; kind = f.kind }

-- of a document by itself, whose references stay as they are
abbrev pub document_fault : Value → Option UpgradeFault
document_fault root = option_map (in_document 0) (root_fault root)

-- the first document has the number n
abbrev pub documents_fault : Pass → List Resource → ℕ → Sources → Option UpgradeFault
documents_fault pass all n [] = None
documents_fault pass all n (s ∷ ss) =
    first_of (option_map (in_document n) (source_fault pass all s)) (documents_fault pass all (n + 1) ss)

abbrev pub of_document : ℕ → FaultKind → UpgradeFault
of_document n kind = record { document = n; place = []; kind = kind }

abbrev pub document_limit : ℕ
document_limit = 1000

abbrev pub number_fault : ℕ → Option UpgradeFault
number_fault n = if nat_lt document_limit n then Some (of_document document_limit TooManyDocuments) else None

-- a URI that an earlier document has
abbrev pub repeated_fault : List Text → ℕ → Sources → Option UpgradeFault
repeated_fault seen n [] = None
repeated_fault seen n (s ∷ ss) =
    if list_any (bytes_eq (uri_printed s.uri)) seen then Some (of_document n DuplicateUri)
    else repeated_fault (uri_printed s.uri ∷ seen) (n + 1) ss

-- ---- the first fault of documents that are upgraded together

-- a `contains` that would evaluate, where a schema has `unevaluatedItems`
abbrev pub contained_fault : List Resource → Sources → Option UpgradeFault
contained_fault all sources =
    option_and_then (λ f. documents_fault Contained all 0 sources) (documents_fault Unevaluated all 0 sources)

abbrev pub references_fault : List Resource → Sources → Option UpgradeFault
references_fault all sources = first_of (documents_fault References all 0 sources) (contained_fault all sources)

abbrev pub uris_fault : List Resource → Sources → Option UpgradeFault
uris_fault all sources = first_of (repeated_fault [] 0 sources) (references_fault all sources)

abbrev pub names_fault : List Resource → Sources → Option UpgradeFault
names_fault all sources = first_of (documents_fault Names all 0 sources) (uris_fault all sources)

abbrev pub fault_among : List Resource → Sources → Option UpgradeFault
fault_among all sources = first_of (number_fault (length sources)) (names_fault all sources)

-- of documents that have these copies
abbrev pub fault_with : Copies → Sources → Option UpgradeFault
fault_with copies sources = fault_among (all_resources copies sources) sources

-- a fault in a copy has its place where that stands which was copied
abbrev pub place_by : Named → Tokens → Option Dialect → Tokens
place_by copies place None = place
place_by copies place (Some d) = uncopied d copies place

abbrev pub place_in : Named → Tokens → Option SourceDocument → Tokens
place_in copies place None = place
place_in copies place (Some s) = place_by copies place (source_dialect s)

abbrev pub in_original : Copies → Sources → UpgradeFault → UpgradeFault
in_original copies sources f =
    record {
      document = f.document;
      place = place_in (unwrap_or (slice_get copies f.document) []) f.place (slice_get sources f.document);
      kind = f.kind;
    }

unfoldable pub first_fault : Sources → Option UpgradeFault
first_fault sources =
    let copies = copies_of sources in
    option_map (in_original copies sources) (fault_with copies (sources_with copies sources))

-- out of memory: at no place
abbrev pub memory_fault : UpgradeFault
memory_fault = of_document 0 Memory

-- memory may run out at any time, also for documents that have no fault
abbrev pub IsUpgradeFault : Option UpgradeFault → UpgradeFault → Type 0
IsUpgradeFault fault e = (e ≡ memory_fault) ⊎ (fault ≡ Some e)

abbrev pub fault_by_stop : Stop → UpgradeFault
fault_by_stop stop.Memory = memory_fault
fault_by_stop (stop.Fault e) = e

-- why an upgrade stops
abbrev pub IsStoppedBy : Option UpgradeFault → Stop → Type 0
IsStoppedBy fault stop.Memory = Unit {0}
IsStoppedBy fault (stop.Fault e) = fault ≡ Some e
