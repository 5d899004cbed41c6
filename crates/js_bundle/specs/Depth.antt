-- The patterns of documents, and whether they nest as `regex` takes them (JSON Schema Validation, section 6.3.3; Core,
-- section 10.3.2.2).
use Rattle.std.specs.Prelude.{◌≡◌, List, [], ◌++◌, false, codes, bytes_eq, map, flat_map, option_to_list, if◌then◌else◌}
use Rattle.std.specs.List.{AllByRecursion}
use Rattle.js_doc.specs.Value.{Value}
use Rattle.js_doc.specs.Parts.{members_of}
use Rattle.js_assert.specs.Pattern.{nests_too_deep}
use Rattle.js_bundle.specs.Document.{Documents}
use Rattle.js_bundle.specs.Keyword.{Text, as_text}
use Rattle.js_bundle.specs.Resource.{Site, sites}

-- the patterns that a keyword holds: the argument of `pattern`, the names of `patternProperties`
abbrev pub patterns_held : Text × Value → List Text
patterns_held m =
    (if bytes_eq m.0 (codes "pattern") then option_to_list (as_text m.1) else [])
    ++ (if bytes_eq m.0 (codes "patternProperties") then map (λ n. n.0) (members_of m.1) else [])

abbrev pub IsShallow : Text → Type 0
IsShallow pattern = nests_too_deep pattern ≡ false

abbrev pub AreShallow : List Text → Type 0
AreShallow patterns = AllByRecursion IsShallow patterns

-- none of a place's patterns nests too deep
abbrev pub HasShallow : Site → Type 0
HasShallow place = AreShallow (flat_map patterns_held (members_of place.schema))

-- nor any of the documents'
abbrev pub NoneTooDeep : Documents → Type 0
NoneTooDeep documents = AllByRecursion HasShallow (sites documents)
