-- Laws of the upgrade.
use Rattle.std.specs.Prelude.{◌≡◌, ◌<◌, List, [], ◌∷◌, Some, true, map, option_and_then}
use Rattle.std.specs.List.{AllByRecursion}
use Rattle.js_doc.specs.Lookup.{at}
use Rattle.js_doc.specs.Members.{get, NamesAscend}
use Rattle.js_doc.specs.Parts.{member_list}
use Rattle.js_doc.specs.Pointer.{Tokens}
use Rattle.js_doc.specs.Value.{Value, object, Members, Text, Values}
use Rattle.js_doc.specs.Lawful.{IsLawful}
use Rattle.js_upgrade.specs.AnchorName.{anchor_name, is_plain_name}
use Rattle.js_upgrade.specs.Current.{IsCurrent}
use Rattle.js_upgrade.specs.Documents.{SourceDocument, all_upgraded, source_dialect}
use Rattle.js_upgrade.specs.Moved.{Reached, moved_tokens, reached}
use Rattle.js_upgrade.specs.Origin.{origin}
use Rattle.js_upgrade.specs.Schema.{put_all}
use Rattle.js_upgrade.specs.Source.{source_with_root}
use Rattle.js_upgrade.specs.Upgrade.{becomes, document_dialect, document_upgraded, holding_in, keywords_upgraded}
use Rattle.js_upgrade.specs.Upgrade.{members_upgraded, upgraded}
use Rattle.js_upgrade.specs.declared.dialect.Dialect.{Dialect}
use Rattle.js_upgrade.specs.declared.dialect.Dialect.TheVariants.{Draft2020}
use Rattle.js_upgrade.specs.declared.holding.SchemaHolding.{SchemaHolding}
use Rattle.js_upgrade.specs.declared.holding.SchemaHolding.TheVariants.{One}

-- a document of 2020-12 stays as it is, unless a schema in it declares an older draft
abbrev pub CurrentStays : Type 0
CurrentStays =
    (assumed : Dialect) (root : Value) → IsLawful root → document_dialect assumed root ≡ Some Draft2020
    → IsCurrent One root → document_upgraded assumed root ≡ Some root

-- a document that was upgraded stays as it is, where the same dialect is assumed
abbrev pub TwiceIsOnce : Type 0
TwiceIsOnce =
    (assumed : Dialect) (root once : Value) → IsLawful root → IsLawful once
    → document_upgraded assumed root ≡ Some once → document_upgraded assumed once ≡ Some once

-- what stands at tokens stands, upgraded, where they are moved to
abbrev pub StandsWhereMoved : Type 0
StandsWhereMoved =
    (h : SchemaHolding) (d : Dialect) (v : Value) (tokens new : Tokens) (r : Reached) → NamesAscend v
    → reached h d v tokens ≡ Some r → moved_tokens h d v tokens ≡ Some new
    → at new (upgraded h d v) ≡ Some (upgraded r.holding r.dialect r.value)

-- a keyword of an upgraded schema is of what the keyword that it comes from becomes
abbrev pub KeywordsHaveOrigins : Type 0
KeywordsHaveOrigins =
    (d : Dialect) (ms : Members) (name : Text) → NamesAscend (object ms)
    → let siblings = member_list ms in
    let parts = members_upgraded (holding_in d siblings) d ms in
    get name (keywords_upgraded d siblings parts)
    ≡ option_and_then (λ v. get name (put_all (becomes d siblings (origin d siblings name) v) []))
    (get (origin d siblings name) parts)

-- ---- documents that are upgraded together

abbrev pub IsCurrentSource : SourceDocument → Type 0
IsCurrentSource s = IsLawful s.root × (source_dialect s ≡ Some Draft2020) × IsCurrent One s.root

-- documents of 2020-12 stay as they are, unless a schema in one of them declares an older draft
abbrev pub AllCurrentStay : Type 0
AllCurrentStay = (sources : List SourceDocument) → AllByRecursion IsCurrentSource sources
    → all_upgraded sources ≡ Some (map (λ s. s.root) sources)

abbrev pub sources_with_roots : List SourceDocument → Values → List SourceDocument
sources_with_roots [] vs = []
sources_with_roots (s ∷ sources) [] = []
sources_with_roots (s ∷ sources) (v ∷ vs) = source_with_root s v ∷ sources_with_roots sources vs

-- documents that were upgraded together stay as they are, where the same dialects are assumed
abbrev pub AllTwiceIsOnce : Type 0
AllTwiceIsOnce =
    (sources : List SourceDocument) (once : Values) → AllByRecursion (λ s. IsLawful s.root) sources
    → AllByRecursion IsLawful once → all_upgraded sources ≡ Some once
    → all_upgraded (sources_with_roots sources once) ≡ Some once

-- ---- names

-- what a name becomes is one that `$anchor` may be
abbrev pub NamesArePlain : Type 0
NamesArePlain = (name : Text) → is_plain_name (anchor_name name) ≡ true

-- two names stay two
abbrev pub NamesStayApart : Type 0
NamesStayApart =
    (a b : Text) → AllByRecursion (λ byte. byte < 256) a → AllByRecursion (λ byte. byte < 256) b
    → anchor_name a ≡ anchor_name b → a ≡ b
