-- Resources and their base URIs (JSON Schema Core, sections 4.3.5, 8.2.1 and 9.1.1; RFC 3986, section 5.1).
-- A document is passed in under a URI, the base of its root. An `$id` begins a resource of its own: it is joined
-- with the base above it, and what it gives, without its fragment, is the base from there on down.
use Rattle.std.specs.Prelude.{ℕ, List, [], Bool, Option, Some, None, is_some, length, nat_lt, map}
use Rattle.std.specs.Prelude.{option_map, option_and_then, codes, if◌then◌else◌}
use Rattle.std.specs.List.{fold}
use Rattle.url.specs.Parts.{Parts}
use Rattle.url.specs.Parser.{parse_url}
use Rattle.js_doc.specs.Pointer.{Tokens}
use Rattle.js_doc.specs.Value.{Value}
use Rattle.js_bundle.specs.declared.scan.base_scope.BaseScope.{BaseScope}
use Rattle.js_bundle.specs.Keyword.{Text, argument, as_text, has_argument}
use Rattle.js_bundle.specs.Document.{Documents}
use Rattle.js_bundle.specs.Place.{SchemaPlace, Located, all_places}
use Rattle.js_bundle.specs.Url.{longest_uri, without_fragment, parsed}

-- a text joined with a base; none if it is too long, or `url` can't join it
abbrev pub joined : Parts → Text → Option Parts
joined base t = if nat_lt longest_uri (length t) then None else parsed (parse_url (Some base) t)

-- the base that an `$id` makes under this base; none if it is no text, or can't be joined
abbrev pub identified_by : Parts → Value → Option Parts
identified_by base id = option_map without_fragment (option_and_then (joined base) (as_text id))

-- the base that a schema's `$id` makes under this base
abbrev pub identified : Parts → Value → Option Parts
identified base schema = option_and_then (identified_by base) (argument (codes "$id") schema)

-- a base scope: the pointer of the root of a resource, and the resource's base

-- what stands below a schema is in its own resource, if its `$id` makes one, or else in the schema's base scope
abbrev pub scope_or : Option Parts → Tokens → BaseScope → BaseScope
scope_or None p scope = scope
scope_or (Some base) p scope = record { resource = p; base = base }

abbrev pub scope_below : BaseScope → Located → BaseScope
scope_below scope s = scope_or (identified scope.base s.schema) s.pointer scope

-- the base scope of a whole document: its root's resource, under its URI
abbrev pub root_scope : Parts → BaseScope
root_scope uri = record { resource = []; base = uri }

-- the base scope that a place is in: the places above it, from the root on, make it
abbrev pub scope_above : SchemaPlace → BaseScope
scope_above place = fold scope_below (root_scope place.uri) place.above

-- the base of a place (section 8.2.1)
abbrev pub base : SchemaPlace → Parts
base place = (scope_below (scope_above place) place.spot).base

-- The root of a place's resource, by its pointer: the nearest place upward, itself included, that has an `$id` or is a
-- root. An `$id` that can't be joined makes no resource for what stands below it, but one for its own place.
abbrev pub resource_root : SchemaPlace → Tokens
resource_root place =
    if has_argument (codes "$id") place.spot.schema then place.spot.pointer else (scope_above place).resource

-- ---- what the rules look at of a place

-- a site: where a place stands, the base scope that it is in (of a root, the document's own, under its URI), its own
-- base scope, whether its `$id` makes a base, and the schema there
pub record Site : Type 0 where
  pub document : ℕ
  pub pointer : Tokens
  pub above : BaseScope
  pub own : BaseScope
  pub identifies : Bool
  pub schema : Value

abbrev pub site : SchemaPlace → Site
site place =
    record {
      document = place.document;
      pointer = place.spot.pointer;
      above = scope_above place;
      own = record { resource = resource_root place; base = base place };
      identifies = is_some (identified (scope_above place).base place.spot.schema);
      schema = place.spot.schema;
    }

-- the sites of all places, in scan order
abbrev pub sites : Documents → List Site
sites documents = map site (all_places documents)
