-- A scan that may stop shows what a check of all places would.
use Rattle.std.proofs.Common.{◌≡◌, ℕ, ◌+◌, ◌<◌, ◌≤◌, List, [], ◌∷◌, ◌++◌, Bool, true, false, not, ◌&&◌, nat_le, take}
use Rattle.std.proofs.Common.{drop, length, refl, sym, ap, ◌∙◌, subst, append_assoc, arith}
use Rattle.std.proofs.lemmas.Bool.{leb-false}
use Rattle.std.proofs.lemmas.List.{append-nil, take-append-drop, take_all, length-append, length-take}
use Rattle.std.specs.List.{flat_map}
use Rattle.js_doc.specs.Parts.{members_of}
use Rattle.js_bundle.specs.declared.check.fault.CheckFault.{CheckFault}
use Rattle.js_bundle.specs.declared.refusal.RefusalKind.TheVariants.{TooManyPlaces, NotASchema, DuplicateUri}
use Rattle.js_bundle.specs.Candidate.{IsClear, IsStopped}
use Rattle.js_bundle.specs.Document.{Documents}
use Rattle.js_bundle.specs.Shape.{is_schema}
use Rattle.js_bundle.specs.Names.{is_root}
use Rattle.js_bundle.specs.Refusals.{when, decided, is_taken, most_places, at_place, at_member}
use Rattle.js_bundle.specs.Refusals.{at_site, first_pass, second_pass, candidates}
use Rattle.js_bundle.specs.Resource.{Site, sites}
use Rattle.js_bundle.specs.code.Scan.{most_sites, scanned}
use Rattle.js_bundle.proofs.Checking.CheckStops.{clear_here, clear_there, clear_append, stopped_here, stopped_later}

-- the first pass over places, and over those after them
first_append : (before xs ys : List Site)
    → first_pass before (xs ++ ys) ≡ first_pass before xs ++ first_pass (before ++ xs) ys
first_append before [] ys = ap (λ b. first_pass b ys) (sym (append-nil before))
first_append before (x ∷ xs) ys =
    let tail = first_pass (before ++ x ∷ []) xs in
    ap (λ r. at_site before x ++ r)
    (first_append (before ++ x ∷ []) xs ys ∙ ap (λ b. tail ++ first_pass b ys) (append_assoc before (x ∷ []) xs))
    ∙ sym (append_assoc (at_site before x) tail (first_pass (before ++ x ∷ xs) ys))

-- ---- a first pass that is clear has no more places than a bundle may have

not_full : (place : Site) (b : Bool) → IsClear (when b (decided place [] TooManyPlaces)) → b ≡ false
not_full place false h = refl
not_full place true h = let no : true ≡ false = h.0.0 in absurd (cc)

room : (before : List Site) (place : Site) → IsClear (at_site before place) → length before < most_places
room before place h =
    let full = when (nat_le most_places (length before)) (decided place [] TooManyPlaces) in
    let rest = when (not (is_schema place.schema)) (decided place [] NotASchema)
    ++ when (is_root place && is_taken before place.above.base) (decided place [] DuplicateUri) in
    leb-false most_places (length before) (not_full place (nat_le most_places (length before)) (clear_here full rest
    (clear_here (at_place before place) (flat_map (at_member before place) (members_of place.schema)) h)))

few : (xs before : List Site) → IsClear (first_pass before xs) → length before ≤ most_places
    → length before + length xs ≤ most_places
few [] before h low = omega (arith, low)
few (x ∷ xs) before h low =
    let after = first_pass (before ++ x ∷ []) xs in
    let short : length before < most_places = room before x (clear_here (at_site before x) after h) in
    let more : length (before ++ x ∷ []) ≡ length before + 1 = length-append before (x ∷ []) in
    let rest : length (before ++ x ∷ []) + length xs ≤ most_places =
    few xs (before ++ x ∷ []) (clear_there (at_site before x) after h) (omega (arith, short, more)) in
    omega (arith, more, rest)

-- ---- the list that the scan answers

scanned_is : (documents : Documents) → scanned documents ≡ take most_sites (sites documents)
unfolding scanned
scanned_is documents = refl

all_taken : (n m : ℕ) (xs : List Site) → n ≡ m + 1 → length (take n xs) ≤ m → take n xs ≡ xs
all_taken n m xs e h =
    let cut = length-take n xs in
    take_all n xs (omega (arith, e, h, cut))

-- where the first pass over it is clear, it lists all places
pub lists_all : (documents : Documents) (listed : List Site) → listed ≡ scanned documents
    → IsClear (first_pass [] listed) → listed ≡ sites documents
lists_all documents listed e h =
    let cut : listed ≡ take most_sites (sites documents) = e ∙ scanned_is documents in
    let all : 0 + length listed ≤ most_places = few listed [] h (omega arith) in
    let short : length listed ≤ most_places = omega (arith, all) in
    cut ∙ all_taken most_sites most_places (sites documents) refl (subst (λ xs. length xs ≤ most_places) cut short)

-- ---- where the passes stop, and where they are clear

pub first_stops : (documents : Documents) (listed : List Site) (e : CheckFault) → listed ≡ scanned documents
    → IsStopped (first_pass [] listed) e → IsStopped (candidates documents) e
first_stops documents listed e is h =
    let all = sites documents in
    let front = take most_sites all in
    let whole : first_pass [] all ≡ first_pass [] front ++ first_pass front (drop most_sites all) =
    ap (first_pass []) (sym (take-append-drop most_sites all)) ∙ first_append [] front (drop most_sites all) in
    stopped_here (first_pass [] all) (second_pass all) e
    (subst (λ cs. IsStopped cs e) (sym whole) (stopped_here (first_pass [] front) (first_pass front
    (drop most_sites all)) e (subst (λ xs. IsStopped (first_pass [] xs) e) (is ∙ scanned_is documents) h)))

pub second_stops : (documents : Documents) (first second : List Site) (e : CheckFault) → first ≡ sites documents
    → second ≡ sites documents → IsClear (first_pass [] first)
    → IsStopped (second_pass second) e → IsStopped (candidates documents) e
second_stops documents first second e is same h g =
    stopped_later (first_pass [] (sites documents)) (second_pass (sites documents)) e
    (subst (λ xs. IsClear (first_pass [] xs)) is h) (subst (λ xs. IsStopped (second_pass xs) e) same g)

pub whole_clear : (documents : Documents) (first second : List Site) → first ≡ sites documents
    → second ≡ sites documents → IsClear (first_pass [] first)
    → IsClear (second_pass second) → IsClear (candidates documents)
whole_clear documents first second is same h g =
    clear_append (first_pass [] (sites documents)) (second_pass (sites documents))
    (subst (λ xs. IsClear (first_pass [] xs)) is h) (subst (λ xs. IsClear (second_pass xs)) same g)

-- documents that aren't refused have no more places than are scanned
pub scanned_whole : (documents : Documents) → IsClear (candidates documents) → scanned documents ≡ sites documents
scanned_whole documents h =
    let all : 0 + length (sites documents) ≤ most_places = few (sites documents) []
    (clear_here (first_pass [] (sites documents)) (second_pass (sites documents)) h) (omega arith) in
    scanned_is documents ∙ take_all most_sites (sites documents) (omega (arith, all))
