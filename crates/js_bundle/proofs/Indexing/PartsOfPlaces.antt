-- Lists of which each place has a part: one place more, and the part of a place.
use Rattle.std.proofs.Common.{◌≡◌, ℕ, zero, suc, ◌+◌, ◌-◌, ◌<◌, ◌≤◌, List, [], ◌∷◌, ◌++◌, true, map, take}
use Rattle.std.proofs.Common.{drop, get_or, length, flat_map, slice_get, slice_range, Some, option_map}
use Rattle.std.proofs.Common.{unwrap_or, sym, ap, ap₂, ◌∙◌, subst, arith}
use Rattle.std.proofs.lemmas.Bool.{ltb-true}
use Rattle.std.proofs.lemmas.List.{length-append}
use Rattle.std.proofs.lemmas.Option.{slice_get-get_or}
use Rattle.std.proofs.Math.Seq.{take-append_seam, drop-append-add}
use Rattle.js_bundle.specs.declared.scan.site.Site as rust
use Rattle.js_bundle.specs.Document.{Documents}
use Rattle.js_bundle.specs.code.PartsByPlace.{ArePartsByPlace, IsPart, ends_from}
use Rattle.js_bundle.specs.Resource.{Site, sites}
use Rattle.js_bundle.specs.code.Scan.{site_of}
use Rattle.js_bundle.specs.PlaceNumber.{is_place, place_at}
use Rattle.js_bundle.proofs.Indexing.PlaceNext.{map_drop_more, piece_next}

-- ---- one place more

-- what is listed of the first places, and what the rest gives, is all
pub record ArePartsSoFar {A : Type 0} (part : Site
    → List A) (ss : List rust.Site) (i : ℕ) (listed : List A) (ending : List ℕ) : Type 0 where
  pub all : listed ++ flat_map part (map site_of (drop i ss)) ≡ flat_map part (map site_of ss)
  pub ends : ending ++ ends_from part (length listed) (map site_of (drop i ss)) ≡ ends_from part 0 (map site_of ss)

pub grouped_next : {A : Type 0} (part : Site → List A) (ss : List rust.Site) (i : ℕ) (x : rust.Site) (old new : List A)
    (old_ends new_ends : List ℕ) → i < length ss → x ≡ get_or ss i x
    → new ≡ old ++ part (site_of x) → new_ends ≡ old_ends ++ length new ∷ [] → ArePartsSoFar part ss i old old_ends
    → ArePartsSoFar part ss (i + 1) new new_ends
grouped_next part ss i x old new old_ends new_ends low is more pushed h =
    let rest = map site_of (drop (i + 1) ss) in
    let here : map site_of (drop i ss) ≡ site_of x ∷ rest = map_drop_more site_of ss i x low is in
    let many : length new ≡ length old + length (part (site_of x)) = ap length more
    ∙ length-append old (part (site_of x)) in
    record {
      all = piece_next old new (part (site_of x)) (flat_map part rest) (flat_map part (map site_of ss)) more
          (subst (λ ys. old ++ flat_map part ys ≡ flat_map part (map site_of ss)) here h.all);
      ends = piece_next old_ends new_ends (length new ∷ []) (ends_from part (length new) rest)
          (ends_from part 0 (map site_of ss)) pushed
          (ap (λ n. old_ends ++ n ∷ ends_from part n rest) many ∙ subst
          (λ ys. old_ends ++ ends_from part (length old) ys ≡ ends_from part 0 (map site_of ss)) here h.ends);
    }

-- ---- the part of a place

-- how many are listed before the part of the place, where the first part begins with the number k
record IsCut {A : Type 0} (part : Site → List A) (places : List Site) (k n : ℕ) (place : Site) : Type 0 where
  pub before : ℕ
  pub begin : slice_get (k ∷ ends_from part k places) n ≡ Some (k + before)
  pub end : slice_get (ends_from part k places) n ≡ Some ((k + before) + length (part place))
  pub there : take (length (part place)) (drop before (flat_map part places)) ≡ part place
  pub fits : before + length (part place) ≤ length (flat_map part places)

cut_at : {A : Type 0} (part : Site → List A) (places : List Site) (k n : ℕ) (place : Site)
    → slice_get places n ≡ Some place → IsCut part places k n place
cut_at part [] k n place e = absurd (cc)
cut_at part (x ∷ xs) k zero place e =
    let same : x ≡ place = cc in
    let many : length (part x ++ flat_map part xs)
    ≡ length (part x) + length (flat_map part xs) = length-append (part x) (flat_map part xs) in
    subst (λ s. IsCut part (x ∷ xs) k zero s) same (record {
      before = 0;
      begin = ap Some (omega arith);
      end = ap Some (omega arith);
      there = take-append_seam (part x) (flat_map part xs);
      fits = omega (arith, many);
    })
cut_at part (x ∷ xs) k (suc n) place e =
    let below = cut_at part xs (k + length (part x)) n place e in
    let many : length (part x ++ flat_map part xs)
    ≡ length (part x) + length (flat_map part xs) = length-append (part x) (flat_map part xs) in
    let fits = below.fits in
    record {
      before = length (part x) + below.before;
      begin = below.begin ∙ ap Some (omega arith);
      end = below.end ∙ ap (λ m. Some (m + length (part place))) (omega arith);
      there = ap (take (length (part place))) (drop-append-add (part x) (flat_map part xs) below.before) ∙ below.there;
      fits = omega (arith, many, fits);
    }

pub part_lent : {A : Type 0} (listed lent : List A) (ending lent_ending : List ℕ) (n : ℕ) (found : List A)
    → lent ≡ listed → lent_ending ≡ ending
    → IsPart lent (unwrap_or (slice_get (0 ∷ lent_ending) n) 0) (unwrap_or (slice_get lent_ending n) 0) found
    → IsPart listed (unwrap_or (slice_get (0 ∷ ending) n) 0) (unwrap_or (slice_get ending n) 0) found
part_lent listed lent ending lent_ending n found same_list same_ending h =
    subst (λ all. IsPart all (unwrap_or (slice_get (0 ∷ ending) n) 0)
    (unwrap_or (slice_get ending n) 0) found) same_list
    (subst (λ es. IsPart lent (unwrap_or (slice_get (0 ∷ es) n) 0) (unwrap_or (slice_get es n) 0) found) same_ending h)

pub part_there : {A : Type 0} (part : Site → List A) (places : List Site) (listed : List A) (ending : List ℕ) (n : ℕ)
    (place : Site) (found : List A) → ArePartsByPlace part places listed ending → slice_get places n ≡ Some place
    → IsPart listed (unwrap_or (slice_get (0 ∷ ending) n) 0) (unwrap_or (slice_get ending n) 0)
    found → part place ≡ found
part_there part places listed ending n place found g e h =
    let cut = cut_at part places 0 n place e in
    let count = length (part place) in
    let begin = 0 + cut.before in
    let begins : unwrap_or (slice_get (0 ∷ ending) n) 0 ≡ begin = ap (λ es. unwrap_or (slice_get (0 ∷ es) n) 0) g.ends
    ∙ ap (λ o. unwrap_or o 0) cut.begin in
    let ends : unwrap_or (slice_get ending n) 0 ≡ begin + count = ap (λ es. unwrap_or (slice_get es n) 0) g.ends
    ∙ ap (λ o. unwrap_or o 0) cut.end in
    let is : IsPart listed begin (begin + count) found = subst (λ m. IsPart listed begin m found) ends
    (subst (λ m. IsPart listed m (unwrap_or (slice_get ending n) 0) found) begins h) in
    let low : begin ≤ begin + count = omega arith in
    let fits = cut.fits in
    let inside : begin + count ≤ length (flat_map part places) = omega (arith, fits) in
    let cuts : found ≡ slice_range listed begin (begin + count) =
    is low (subst (λ l. begin + count ≤ length l) (sym g.all) inside) in
    let counted : (begin + count) - begin ≡ count = omega arith in
    let from : begin ≡ cut.before = omega arith in
    sym (cuts ∙ ap (λ l. slice_range l begin (begin + count)) g.all
    ∙ ap₂ (λ m b. take m (drop b (flat_map part places))) counted from ∙ cut.there)

-- a number below the count is that of a place
pub there : (documents : Documents) (n : ℕ) → is_place documents n ≡ true → (s : Site) × (place_at documents n ≡ Some s)
there documents n h = by_length (sites documents) (ltb-true n (length (sites documents)) h)
  where
    by_length : (all : List Site) → n < length all → (s : Site) × (slice_get all n ≡ Some s)
    by_length [] low = absurd (omega (arith, low))
    by_length (x ∷ xs) low = (_, slice_get-get_or (x ∷ xs) n x low)

-- what is lent of the two lists is the same
pub part_of : {A : Type 0} (part : Site → List A) (docs documents : Documents) (listed lent : List A)
    (ending lent_ending : List ℕ) (n place : ℕ) (found : List A) → docs ≡ documents → n ≡ place
    → ArePartsByPlace part (sites docs) listed ending → is_place documents place ≡ true
    → lent ≡ listed → lent_ending ≡ ending
    → IsPart lent (unwrap_or (slice_get (0 ∷ lent_ending) n) 0) (unwrap_or (slice_get lent_ending n) 0) found
    → option_map part (place_at documents place) ≡ Some found
part_of part docs documents listed lent ending lent_ending n place found same number g within same_list same_ending h =
    let s = there documents place within in
    let grouped : ArePartsByPlace part (sites documents) listed ending =
    subst (λ ds. ArePartsByPlace part (sites ds) listed ending) same g in
    ap (option_map part) s.1 ∙ ap Some (part_there part (sites documents) listed ending place s.0 found grouped s.1
    (subst (λ m. IsPart listed (unwrap_or (slice_get (0 ∷ ending) m) 0) (unwrap_or (slice_get ending m) 0) found) number
    (part_lent listed lent ending lent_ending n found same_list same_ending h)))
