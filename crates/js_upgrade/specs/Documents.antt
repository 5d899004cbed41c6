-- Documents that are upgraded together: a reference of one may lead into another.
use Rattle.std.specs.Prelude.{List, [], ◌∷◌, ◌++◌, Bool, Option, Some, None, codes, map, if◌then◌else◌}
use Rattle.std.specs.List.{list_all}
use Rattle.js_doc.specs.Members.{put}
use Rattle.js_doc.specs.Parts.{member_list}
use Rattle.js_doc.specs.Value.{Value, Values, Named, object, members}
pub use Rattle.js_upgrade.specs.Source.{SourceDocument, Sources, is_known, source_dialect}
use Rattle.js_upgrade.specs.Copies.{Copies, copies_of, sources_with}
use Rattle.js_upgrade.specs.Reference.{relocated}
use Rattle.js_upgrade.specs.Resource.{Resource, document_resources, has_recursion}
use Rattle.js_upgrade.specs.Schema.{recursive_name}
use Rattle.js_upgrade.specs.Upgrade.{root_upgraded}
use Rattle.js_upgrade.specs.declared.dialect.Dialect.{Dialect}
use Rattle.js_upgrade.specs.declared.holding.SchemaHolding.TheVariants.{One}

-- ---- what their references may lead to

abbrev pub resources_by : Named → SourceDocument → Option Dialect → List Resource
resources_by copies s None = []
resources_by copies s (Some d) = document_resources copies d s.uri s.root

abbrev pub source_resources : Named → SourceDocument → List Resource
source_resources copies s = resources_by copies s (source_dialect s)

abbrev pub all_resources : Copies → Sources → List Resource
all_resources copies [] = []
all_resources [] (s ∷ ss) = source_resources [] s ++ all_resources [] ss
all_resources (c ∷ copies) (s ∷ ss) = source_resources c s ++ all_resources copies ss

-- ---- each with its references rewritten, and upgraded

-- the root of a document may have `$recursiveAnchor` without an identifier
abbrev pub with_anchor : Value → Value
with_anchor (object ms) = object (members (put (codes "$dynamicAnchor") recursive_name (member_list ms)))
with_anchor v = v

abbrev pub anchored : Bool → Value → Value
anchored recursive v = if recursive then with_anchor v else v

abbrev pub upgraded_by_dialect : List Resource → SourceDocument → Option Dialect → Value
upgraded_by_dialect all s None = s.root
upgraded_by_dialect all s (Some d) =
    anchored (has_recursion d s.root) (root_upgraded d (relocated all One d s.uri s.root))

abbrev pub upgraded_among : List Resource → SourceDocument → Value
upgraded_among all s = upgraded_by_dialect all s (source_dialect s)

-- ---- of documents that have these copies

abbrev pub each_upgraded_with : Copies → Sources → Values
each_upgraded_with copies sources = map (upgraded_among (all_resources copies sources)) sources

-- none where the dialect of one isn't known
abbrev pub upgraded_with : Copies → Sources → Option Values
upgraded_with copies sources =
    if list_all is_known sources then Some (each_upgraded_with copies sources) else None

-- ---- in order, each with copies of what references lead to, where that stands apart

unfoldable pub are_known : Sources → Bool
are_known sources = list_all is_known (sources_with (copies_of sources) sources)

unfoldable pub each_upgraded : Sources → Values
each_upgraded sources = each_upgraded_with (copies_of sources) (sources_with (copies_of sources) sources)

-- none where the dialect of one isn't known
abbrev pub all_upgraded : Sources → Option Values
all_upgraded sources = if are_known sources then Some (each_upgraded sources) else None
