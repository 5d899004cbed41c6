-- What references lead to (JSON Schema Core, section 8.2.3).
use Rattle.std.specs.Prelude.{List, [], ◌∷◌, Bool, false, ◌&&◌, Option, None, option_map}
use Rattle.std.specs.Prelude.{option_and_then, unwrap_or, codes, find, if◌then◌else◌}
use Rattle.std.specs.Option.{option_or, option_map_or}
use Rattle.url.specs.Parts.{Parts}
use Rattle.js_bundle.specs.Keyword.{Text, text_argument}
use Rattle.js_bundle.specs.Url.{decoded_fragment}
use Rattle.js_bundle.specs.Resource.{Site, joined}
use Rattle.js_bundle.specs.Names.{belongs_to, makes, named}

-- the URI that a reference is: its text, joined with the base of its place; none where the place has no such text
abbrev pub reference : Text → Site → Option Parts
reference keyword place = option_and_then (joined place.own.base) (text_argument keyword place.schema)

-- the place that a keyword's reference names
abbrev pub first_target : List Site → Text → Site → Option Site
first_target all keyword place = option_and_then (named all) (reference keyword place)

-- ---- `$ref` (section 8.2.3.1)

abbrev pub ref_target : List Site → Site → Option Site
ref_target all place = first_target all (codes "$ref") place

-- ---- `$dynamicRef` (section 8.2.3.2)
-- The dynamic scope (section 7.1) is a path: the places applied, from the entry to the present one, both included.

-- the place to which `$dynamicAnchor` gives the name, in the resource of a place
abbrev pub dynamic_anchor : List Site → Text → Site → Option Site
dynamic_anchor all name place =
    find (λ t. belongs_to place.document place.own.resource t && makes (codes "$dynamicAnchor") name t) all

-- the first of the path's resources that has the name gives it
abbrev pub outermost : List Site → Text → List Site → Option Site
outermost all name [] = None
outermost all name (place ∷ path) = option_or (dynamic_anchor all name place) (outermost all name path)

-- `$dynamicAnchor` makes the reference's fragment a name of its first target
abbrev pub is_dynamic : Option Parts → Site → Bool
is_dynamic uri first = option_map_or (λ u. makes (codes "$dynamicAnchor") (decoded_fragment u) first) uri false

-- Where the first target has the name by `$dynamicAnchor`, the outermost resource of the path that has it so gives the
-- target; else, or if no resource of the path has it, the first target stands.
abbrev pub dynamic_of : List Site → List Site → Option Parts → Site → Site
dynamic_of all path uri first =
    if is_dynamic uri first then unwrap_or (option_and_then (λ u. outermost all (decoded_fragment u) path) uri) first
    else first

abbrev pub dynamic_ref_target : List Site → List Site → Site → Option Site
dynamic_ref_target all path place =
    option_map (dynamic_of all path (reference (codes "$dynamicRef") place))
    (first_target all (codes "$dynamicRef") place)
