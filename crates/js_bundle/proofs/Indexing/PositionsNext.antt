-- How the first pass notes where places stand.
use Rattle.std.proofs.Common.{◌≡◌, ℕ, ◌+◌, ◌<◌, ◌≤◌, List, [], ◌++◌, map, take, drop}
use Rattle.std.proofs.Common.{get_or, length, refl, ap, subst, arith}
use Rattle.std.proofs.lemmas.List.{length-map, length-take}
use Rattle.js_bundle.specs.declared.index.positions.Positions.{Positions}
use Rattle.js_bundle.specs.declared.scan.site.Site as rust
use Rattle.js_bundle.specs.code.Index.{HasPlaceAdded, IsIndexOf}
use Rattle.js_bundle.specs.code.StoredLocation.{stored_location}
use Rattle.js_bundle.specs.code.Positions.{ArePositionsOf, HasPositionAdded}
use Rattle.js_bundle.specs.code.Scan.{site_of}
use Rattle.js_bundle.specs.ResourceNumber.{begins_resource}
use Rattle.js_bundle.proofs.Indexing.SparseLists.{ended}
use Rattle.js_bundle.proofs.Indexing.IndexFinds.{index_more, index_whole}
use Rattle.js_bundle.proofs.Indexing.PlaceNext.{place_next}

-- as many of the places are recorded of
pub record ArePositionsSoFar (ss : List rust.Site) (i : ℕ) (positions : Positions) : Type 0 where
  pub index : IsIndexOf positions.index (map site_of (take i ss))
  pub roots : positions.roots.items ++ map begins_resource (map site_of (drop i ss))
      ≡ map begins_resource (map site_of ss)
  pub locations : positions.locations.items ++ map stored_location (map site_of (drop i ss))
      ≡ map stored_location (map site_of ss)

pub positions_first : (ss : List rust.Site) (positions : Positions) → ArePositionsOf positions []
    → ArePositionsSoFar ss 0 positions
positions_first ss positions h = record {
  index = h.index;
  roots = ap (λ bs. bs ++ map begins_resource (map site_of ss)) h.roots;
  locations = ap (λ ls. ls ++ map stored_location (map site_of ss)) h.locations;
}

pub positions_next : (ss : List rust.Site) (i : ℕ) (x : rust.Site) (old new : Positions)
    → i < length ss → x ≡ get_or ss i x
    → HasPositionAdded old (map site_of (take i ss)) (site_of x) new → ArePositionsSoFar ss i old
    → ArePositionsSoFar ss (i + 1) new
positions_next ss i x old new low is a h =
    let before = map site_of (take i ss) in
    let taken = length-take i ss in
    let mapped = length-map (take i ss) site_of in
    let count : length before ≡ i = omega (arith, low, taken, mapped) in
    record {
      index = index_more ss i x old.index new.index low is h.index
          (subst (λ n. HasPlaceAdded old.index (site_of x) n new.index) count a.index);
      roots = place_next begins_resource ss i x old.roots.items new.roots.items (begins_resource (site_of x))
          (map begins_resource (map site_of ss)) low is a.roots refl h.roots;
      locations = place_next stored_location ss i x old.locations.items new.locations.items
          (stored_location (site_of x))
          (map stored_location (map site_of ss)) low is a.locations refl h.locations;
    }

pub positions_whole : (ss : List rust.Site) (i : ℕ) (positions : Positions) → i ≡ length ss
    → ArePositionsSoFar ss i positions → ArePositionsOf positions (map site_of ss)
positions_whole ss i positions whole h =
    let low : length ss ≤ i = omega (arith, whole) in
    record {
      index = index_whole ss i positions.index low h.index;
      roots = ended begins_resource ss i positions.roots.items (map begins_resource (map site_of ss)) low h.roots;
      locations = ended stored_location ss i positions.locations.items
          (map stored_location (map site_of ss)) low h.locations;
    }
