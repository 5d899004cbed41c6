-- What is kept of resources: the number of each place's, and of each resource what `$dynamicAnchor` names in it.
use Rattle.std.specs.Prelude.{◌≡◌, ℕ, ◌+◌, List, [], ◌∷◌, length, Bool, true, Some, filter, map, slice_get}
use Rattle.std.specs.Prelude.{unwrap_or, option_and_then, option_to_list, codes, if◌then◌else◌}
use Rattle.std.specs.List.{list_any, position_from, AllByRecursion}
use Rattle.js_bundle.specs.declared.index.numbering.Numbering.{Numbering}
use Rattle.js_bundle.specs.declared.index.resource_table.Resources.{Resources}
use Rattle.js_bundle.specs.code.Index.{AreInserted, FindsFirst}
use Rattle.js_bundle.specs.Keyword.{Text, text_argument}
use Rattle.js_bundle.specs.Names.{belongs_to, stands_at}
use Rattle.js_bundle.specs.Resource.{Site}
use Rattle.js_bundle.specs.ResourceNumber.{begins_resource, roots, number_of_resource}

-- the names that `$dynamicAnchor` makes at a place, in the resource with this root
abbrev pub dynamic_names : Site → Site → List Text
dynamic_names root place = if belongs_to root.document root.own.resource place then option_to_list
    (text_argument (codes "$dynamicAnchor") place.schema) else []

-- of each resource: under each name the number of the first place that makes it
pub record AreAnchors (roots : List Site) (anchors : List Numbering) (places : List Site) : Type 0 where
  pub many : length anchors ≡ length roots
  pub first : (n : ℕ) (root : Site) (names : Numbering) → slice_get roots n ≡ Some root
      → slice_get anchors n ≡ Some names → FindsFirst (dynamic_names root) names places

pub record IsResourceTable (table : Resources) (all : List Site) : Type 0 where
  pub numbers : map Some table.numbers.items ≡ map (number_of_resource all) all
  pub anchors : AreAnchors (roots all) table.anchors.items all

-- ---- words for how it is made

-- Marks say of each place whether it is a root: how many roots stand before each, and n before the first.
abbrev pub ranks_by : ℕ → List Bool → List ℕ
ranks_by n [] = []
ranks_by n (begins ∷ marks) = n ∷ ranks_by (if begins then n + 1 else n) marks

abbrev pub ranks_from : ℕ → List Site → List ℕ
ranks_from n places = ranks_by n (map begins_resource places)

-- how many are roots
abbrev pub count_begun : List Bool → ℕ
count_begun marks = length (filter (λ begins. begins) marks)

-- how many roots stand before the root of a place's resource
abbrev pub rank_of_root : List Site → Site → ℕ
rank_of_root all place = unwrap_or (option_and_then (slice_get (ranks_from 0 all))
    (position_from (stands_at place.document place.own.resource) 0 all)) 0

abbrev pub AreEmpty : List Numbering → Type 0
AreEmpty anchors = AllByRecursion (λ names. names.first.entries ≡ []) anchors

-- at a root there is one resource more, without names
pub record IsOpened (at_root : Bool) (old new : List Numbering) : Type 0 where
  pub many : length new ≡ (if at_root then length old + 1 else length old)
  pub empty : AreEmpty old → AreEmpty new

-- the names have the place's number in the resource with the number n, each unless it had one before
pub record AreNamed (old : List Numbering) (n : ℕ) (names : List Text) (place : ℕ) (new : List Numbering) : Type 0 where
  pub many : length new ≡ length old
  pub here : (a b : Numbering) → slice_get old n ≡ Some a → slice_get new n ≡ Some b → AreInserted a names place b
  pub others : (m : ℕ) → ¬ (m ≡ n) → slice_get new m ≡ slice_get old m

-- no two places stand at one pointer of one document
abbrev pub StandApart : List Site → Type 0
StandApart [] = Unit {0}
StandApart (place ∷ places) =
    AllByRecursion (λ s. ¬ (stands_at place.document place.pointer s ≡ true)) places × StandApart places

-- each place's resource has its root among them
pub record AreRooted (all : List Site) : Type 0 where
  pub apart : StandApart all
  pub rooted : AllByRecursion (λ s. list_any (stands_at s.document s.own.resource) (roots all) ≡ true) all
