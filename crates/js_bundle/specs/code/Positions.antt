-- Where places stand, as the first pass notes it: their keys in the index, which are roots of resources, and what is
-- kept of their absolute locations.
use Rattle.std.specs.Prelude.{◌≡◌, ◌-◌, List, [], ◌∷◌, ◌++◌, length, Option, map, slice_get}
use Rattle.js_bundle.specs.declared.index.positions.Positions.{Positions}
use Rattle.js_bundle.specs.declared.index.positions.TextPrefixes.{TextPrefixes}
use Rattle.js_bundle.specs.code.TextPrefix.{BeginsKey, BeginsLocation}
use Rattle.js_bundle.specs.code.Index.{HasPlaceAdded, IsIndexOf}
use Rattle.js_bundle.specs.code.StoredLocation.{stored_location}
use Rattle.js_bundle.specs.Resource.{Site}
use Rattle.js_bundle.specs.ResourceNumber.{begins_resource}

pub record BeginTexts (prefixes : TextPrefixes) (place : Site) : Type 0 where
  pub key : BeginsKey prefixes.key place
  pub location : BeginsLocation prefixes.location place

pub record ArePositionsOf (positions : Positions) (all : List Site) : Type 0 where
  pub index : IsIndexOf positions.index all
  pub roots : positions.roots.items ≡ map begins_resource all
  pub locations : positions.locations.items ≡ map stored_location all

-- the last of these, if there is one
abbrev pub IsLast : List Site → Option Site → Type 0
IsLast places last = last ≡ slice_get places (length places - 1)

-- a place more, after these
pub record HasPositionAdded (old : Positions) (before : List Site) (place : Site) (new : Positions) : Type 0 where
  pub index : HasPlaceAdded old.index place (length before) new.index
  pub roots : new.roots.items ≡ old.roots.items ++ begins_resource place ∷ []
  pub locations : new.locations.items ≡ old.locations.items ++ stored_location place ∷ []
