-- Faults, and where they stand.
use Rattle.std.proofs.Common.{◌≡◌, [], ◌∷◌, Some, None, codes, refl}
use Rattle.std.specs.Fmt.{digits}
use Rattle.std.specs.Str.{chars, is_utf8}
use lib.Utf8.{encode}
use Rattle.percent_encoding.specs.AsciiSet.{should_percent_encode}
use Rattle.percent_encoding.specs.Percent.{percent_decode, percent_encode, percent_encode_byte}
use Rattle.url.specs.Input.{split_once, strip_tabs_and_new_lines, trim_c0_control_and_space}
use Rattle.url.specs.Parser.{parse_parts, parse_url, split_scheme}
use Rattle.url.specs.Scheme.{default_port, scheme_len, scheme_type}
use Rattle.js_doc.specs.Pointer.{Tokens}
use Rattle.js_doc.specs.Value.{null, text, Text, Named}
use Rattle.js_upgrade.specs.Dialect.{version_named}
use Rattle.js_upgrade.specs.Fault.{FoundFault, FaultKind, first_fault, source_fault}
use Rattle.js_upgrade.specs.Keyword.{core_change, applicator_change, assertion_change}
use Rattle.js_upgrade.specs.Url.{uri_printed, uri_without_fragment}
use Rattle.js_upgrade.specs.declared.dialect.Dialect.TheVariants.{Draft04, Draft07, Draft2019}
use Rattle.js_upgrade.specs.declared.fault.Pass.TheVariants.{Names, References, Contained}
use Rattle.js_upgrade.specs.declared.fault.UpgradeFaultKind.TheVariants.{BadKeyword, DuplicateUri, UnknownDialect}
use Rattle.js_upgrade.specs.declared.fault.UpgradeFaultKind.TheVariants.{BadReference, Unresolved}
use Rattle.js_upgrade.proofs.DocumentExamples.{refers, source}
use Rattle.js_upgrade.proofs.Examples.{obj}

abbrev found : Tokens → FaultKind → FoundFault
found place kind = record { place = place; kind = kind }

-- a dialect that isn't known
abbrev unknown : Named
unknown = (codes "$schema", text (codes "https://o.example/x")) ∷ []

-- at the root
root_unknown : source_fault Names [] (source Draft07 (codes "/s") unknown)
    ≡ Some (found (codes "$schema" ∷ []) UnknownDialect)
unfolding version_named
root_unknown = refl

root_no_text : source_fault Names [] (source Draft07 (codes "/s") ((codes "$schema", null) ∷ []))
    ≡ Some (found (codes "$schema" ∷ []) BadKeyword)
root_no_text = refl

-- beside an identifier, and else it doesn't count
embedded : source_fault Names []
    (source Draft07 (codes "/s") ((codes "not", obj ((codes "$id", text (codes "t")) ∷ unknown)) ∷ []))
    ≡ Some (found (codes "not" ∷ codes "$schema" ∷ []) UnknownDialect)
unfolding core_change applicator_change assertion_change version_named
embedded = refl

not_embedded : source_fault Names [] (source Draft07 (codes "/s") ((codes "not", obj unknown) ∷ [])) ≡ None
unfolding core_change applicator_change assertion_change version_named
not_embedded = refl

-- an identifier that is no text, by the dialect's name for it
no_identifier : source_fault Names [] (source Draft04 (codes "/s") ((codes "not", obj ((codes "id", null) ∷ [])) ∷ []))
    ≡ Some (found (codes "not" ∷ codes "id" ∷ []) BadKeyword)
unfolding core_change applicator_change assertion_change
no_identifier = refl

of_another_draft : source_fault Names [] (source Draft07 (codes "/s") ((codes "id", null) ∷ [])) ≡ None
unfolding core_change applicator_change assertion_change
of_another_draft = refl

-- a reference hides it
hidden : source_fault Names []
    (source Draft07 (codes "/s") ((codes "$id", null) ∷ (codes "$ref", text (codes "#")) ∷ [])) ≡ None
unfolding core_change applicator_change assertion_change
hidden = refl

-- a reference to nothing; one in a value, and one under an unknown keyword are none
nowhere : first_fault (source Draft07 (codes "/s") ((codes "const", refers (codes "#/y"))
    ∷ (codes "not", refers (codes "#/definitions/x")) ∷ (codes "x", refers (codes "#/y")) ∷ []) ∷ [])
    ≡ Some (record { document = 0; place = codes "not" ∷ codes "$ref" ∷ []; kind = Unresolved })
unfolding first_fault core_change applicator_change assertion_change version_named uri_printed uri_without_fragment
    chars encode is_utf8 should_percent_encode percent_decode percent_encode percent_encode_byte split_once
    strip_tabs_and_new_lines trim_c0_control_and_space parse_parts parse_url split_scheme default_port scheme_len
    scheme_type
nowhere = refl

-- what 2019-09 follows dynamically is `#`; to draft-07 it is an unknown keyword
abbrev recursive : Text → Named
recursive t = (codes "$recursiveRef", text t) ∷ []

followed : source_fault References [] (source Draft2019 (codes "/s") (recursive (codes "#"))) ≡ None
unfolding core_change applicator_change assertion_change
followed = refl

followed_nowhere : source_fault References [] (source Draft2019 (codes "/s") (recursive (codes "#a")))
    ≡ Some (found (codes "$recursiveRef" ∷ []) BadReference)
unfolding core_change applicator_change assertion_change
followed_nowhere = refl

unknown_there : source_fault References [] (source Draft07 (codes "/s") (recursive (codes "#a"))) ≡ None
unfolding core_change applicator_change assertion_change
unknown_there = refl

-- two documents under one URI
twice : first_fault (source Draft07 (codes "/s") [] ∷ source Draft04 (codes "/s") [] ∷ [])
    ≡ Some (record { document = 1; place = []; kind = DuplicateUri })
unfolding first_fault uri_printed chars digits default_port
twice = refl

-- names come before references
names_first : first_fault (source Draft07 (codes "/s") ((codes "$ref", text (codes "t")) ∷ [])
    ∷ source Draft07 (codes "/t") unknown ∷ [])
    ≡ Some (record { document = 1; place = codes "$schema" ∷ []; kind = UnknownDialect })
unfolding first_fault core_change applicator_change assertion_change version_named
names_first = refl

-- `contains` of draft-07 would evaluate where a schema of 2019-09 has `unevaluatedItems`, unless a reference hides it
abbrev contains : Named
contains = (codes "contains", null) ∷ []

abbrev unevaluated : Named
unevaluated = (codes "unevaluatedItems", null) ∷ []

contained : first_fault (source Draft2019 (codes "/s") unevaluated ∷ source Draft07 (codes "/t") contains ∷ [])
    ≡ Some (record { document = 1; place = codes "contains" ∷ []; kind = BadKeyword })
unfolding first_fault core_change applicator_change assertion_change version_named uri_printed chars digits default_port
contained = refl

contained_alone : first_fault (source Draft07 (codes "/s") unevaluated ∷ source Draft07 (codes "/t") contains ∷ [])
    ≡ None
unfolding first_fault core_change applicator_change assertion_change version_named uri_printed chars digits default_port
contained_alone = refl

contained_hidden : source_fault Contained []
    (source Draft07 (codes "/s") ((codes "$ref", text (codes "#")) ∷ contains)) ≡ None
unfolding core_change applicator_change assertion_change
contained_hidden = refl
