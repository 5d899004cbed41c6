-- What the scan keeps of an `$id` for its rules (JSON Schema Core, section 8.2.1).
use Rattle.std.specs.Prelude.{Bool, false, option_and_then, codes}
use Rattle.std.specs.Option.{option_map_or}
use Rattle.url.specs.Parts.{Parts}
use Rattle.js_doc.specs.Value.{Value}
use Rattle.js_bundle.specs.Keyword.{argument, as_text}
use Rattle.js_bundle.specs.Url.{is_empty}
use Rattle.js_bundle.specs.Resource.{joined}
use Rattle.js_bundle.specs.Url.{raw_fragment}

-- the `$id` gives a URI under this base, with no fragment or an empty one
abbrev pub is_bare_by : Parts → Value → Bool
is_bare_by base id = option_map_or (λ uri. is_empty (raw_fragment uri))
    (option_and_then (joined base) (as_text id)) false

-- so does that of the schema
abbrev pub is_bare : Parts → Value → Bool
is_bare base schema = option_map_or (is_bare_by base) (argument (codes "$id") schema) false
