-- What is built of a place's keywords.
use Rattle.std.specs.Prelude.{List, [], codes, bytes_eq, map, option_to_list, if◌then◌else◌}
use Rattle.std.specs.List.{flat_map}
use Rattle.js_doc.specs.Value.{Value, Named}
use Rattle.js_doc.specs.Parts.{members_of}
use Rattle.js_assert.specs.Assertion.{Asserted, asserted}
use Rattle.js_bundle.specs.declared.check.assertions_and_patterns.BuiltPattern.{BuiltPattern}
use Rattle.js_bundle.specs.Keyword.{Text}
use Rattle.js_bundle.specs.Resource.{Site}

-- ---- assertions

-- a keyword's assertion, if it is one
abbrev pub assertion_at : Named → Text × Value → List Asserted
assertion_at siblings m = option_to_list (asserted m.0 m.1 siblings)

abbrev pub assertions_at : Site → List Asserted
assertions_at place = flat_map (assertion_at (members_of place.schema)) (members_of place.schema)

-- ---- the patterns of `patternProperties`; a pattern is seen as its text

abbrev pub pattern_at : Text × Value → BuiltPattern
pattern_at m = record { name = m.0; pattern = m.0 }

abbrev pub patterns_of : Text × Value → List BuiltPattern
patterns_of m = if bytes_eq m.0 (codes "patternProperties") then map pattern_at (members_of m.1) else []

abbrev pub patterns_at : Site → List BuiltPattern
patterns_at place = flat_map patterns_of (members_of place.schema)
