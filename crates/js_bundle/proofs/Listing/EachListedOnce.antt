-- Each place is listed once, over all documents: so where it stands determines its number.
use Rattle.std.proofs.Common.{◌≡◌, ℕ, zero, suc, ◌+◌, ◌≤◌, List, [], ◌∷◌, ◌++◌, Bool, true, false, cond}
use Rattle.std.proofs.Common.{map, Some, slice_get, find, refl, ap, ◌∙◌, arith}
use Rattle.std.specs.List.{AllByRecursion, position_from}
use Rattle.std.proofs.lemmas.Bool.{and_parts, eqb-true}
use Rattle.js_doc.specs.Pointer.{Tokens}
use Rattle.js_doc.proofs.TokenLookup.{is_text-refl, is_text-sound}
use Rattle.js_bundle.specs.Document.{Documents}
use Rattle.js_bundle.specs.Names.{same_tokens, stands_at}
use Rattle.js_bundle.specs.Place.{SchemaPlace, places_at, places_from}
use Rattle.js_bundle.specs.PlaceLaws.{AreApart, AreDistinct, Differ}
use Rattle.js_bundle.specs.Resource.{Site, site, sites}
use Rattle.js_bundle.specs.Seen.{AreOrdered, AreShort}
use Rattle.js_bundle.proofs.Listing.LeastSetListed.{all_append}
use Rattle.js_bundle.proofs.Listing.PlacesApart.{all_as, apart_at}
use Rattle.js_bundle.proofs.Standing.{of_document, all_at, made_at}
use Rattle.js_bundle.proofs.Indexing.FirstFound.{nat_eq-refl, number_finds_it, number_passes}

-- ---- the test of where a place stands

pub tokens-refl : (p : Tokens) → same_tokens p p ≡ true
tokens-refl [] = refl
tokens-refl (k ∷ p) = let here : same_tokens (k ∷ p) (k ∷ p)
    ≡ same_tokens p p = rw (is_text-refl k) refl in here ∙ tokens-refl p

pub tokens-sound : (p q : Tokens) → same_tokens p q ≡ true → p ≡ q
tokens-sound [] [] e = refl
tokens-sound [] (l ∷ q) e = absurd (cc)
tokens-sound (k ∷ p) [] e = absurd (cc)
tokens-sound (k ∷ p) (l ∷ q) e =
    let parts = and_parts _ _ e in
    λ i. is_text-sound k l parts.0 i ∷ tokens-sound p q parts.1 i

-- it stands at the pointer of the document
pub record IsAt (d : ℕ) (p : Tokens) (s : Site) : Type 0 where
  pub document : s.document ≡ d
  pub pointer : s.pointer ≡ p

pub at_place : (d : ℕ) (p : Tokens) (s : Site) → stands_at d p s ≡ true → IsAt d p s
at_place d p s e = let parts = and_parts _ _ e in
    record { document = eqb-true s.document d parts.0; pointer = tokens-sound s.pointer p parts.1 }

pub stands_itself : (s : Site) → stands_at s.document s.pointer s ≡ true
stands_itself s = rw (nat_eq-refl s.document, tokens-refl s.pointer) refl

-- ---- no two of the listed places stand at one pointer of one document

distinct_apart : (xs : List SchemaPlace) → AreApart xs → AreDistinct xs
distinct_apart [] h = tt
distinct_apart (x ∷ xs) h =
    (all_as (λ s. ¬ (x.spot.pointer ≡ s.spot.pointer)) (λ s. Differ x s) (λ s n d. n) xs h.0, distinct_apart xs h.1)

distinct_append : (n : ℕ) (xs ys : List SchemaPlace) → AllByRecursion (λ t. t.document ≡ n) xs
    → AllByRecursion (λ t. suc n ≤ t.document) ys → AreDistinct xs → AreDistinct ys → AreDistinct (xs ++ ys)
distinct_append n [] ys h g a b = b
distinct_append n (x ∷ xs) ys h g a b = (
  all_append (λ s. Differ x s) xs ys a.0 (all_as (λ t. suc n ≤ t.document) (λ s. Differ x s)
      (λ s low same. absurd (omega (arith, low, same, h.0))) ys g),
  distinct_append n xs ys h.1 g a.1 b,
)

later_documents : (n : ℕ) (ds : Documents) → AllByRecursion (λ t. n ≤ t.document) (places_from n ds)
later_documents n [] = tt
later_documents n (d ∷ ds) =
    all_append (λ t. n ≤ t.document) (places_at n d.uri [] [] d.root) (places_from (suc n) ds)
    (all_as (λ t. t.document ≡ n) (λ t. n ≤ t.document) (λ t e. omega (arith, e)) (places_at n d.uri [] [] d.root)
    (of_document n d.uri d.root [] []))
    (all_as (λ t. suc n ≤ t.document) (λ t. n ≤ t.document) (λ t low. omega (arith, low)) (places_from (suc n) ds)
    (later_documents (suc n) ds))

pub all_distinct : (n : ℕ) (ds : Documents) → AreOrdered ds → AreShort ds → AreDistinct (places_from n ds)
all_distinct n [] a s = tt
all_distinct n (d ∷ ds) a s =
    distinct_append n (places_at n d.uri [] [] d.root) (places_from (suc n) ds) (of_document n d.uri d.root [] [])
    (later_documents (suc n) ds)
    (distinct_apart (places_at n d.uri [] [] d.root) (apart_at n d.uri d.root [] [] a.0 s.0))
    (all_distinct (suc n) ds a.1 s.1)

-- ---- so where a place stands finds it

fails_by : (x t : SchemaPlace) (b : Bool) → stands_at t.document t.spot.pointer (site x) ≡ b → Differ x t
    → stands_at t.document t.spot.pointer (site x) ≡ false
fails_by x t true e n = let a = at_place t.document t.spot.pointer (site x) e in absurd (n a.document a.pointer)
fails_by x t false e n = e

number_from : (t : SchemaPlace) (xs : List SchemaPlace) (n k m : ℕ) → m ≡ k + n → AreDistinct xs
    → slice_get xs n ≡ Some t → position_from (stands_at t.document t.spot.pointer) k (map site xs) ≡ Some m
number_from t [] n k m is h e = absurd (cc)
number_from t (x ∷ xs) zero k m is h e =
    let same : x ≡ t = cc in
    let here : stands_at t.document t.spot.pointer (site x)
    ≡ true = ap (λ y. stands_at t.document t.spot.pointer (site y)) same ∙ stands_itself (site t) in
    let number : k ≡ m = omega (arith, is) in
    ap (λ b. cond b (Some k)
    (position_from (stands_at t.document t.spot.pointer) (k + 1) (map site xs))) here ∙ ap Some number
number_from t (x ∷ xs) (suc n) k m is h e =
    let other = fails_by x t (stands_at t.document t.spot.pointer (site x)) refl
    (all_at (λ s. Differ x s) xs n t h.0 e) in
    ap (λ b. cond b (Some k) (position_from (stands_at t.document t.spot.pointer) (k + 1) (map site xs))) other
    ∙ number_from t xs n (k + 1) m (omega (arith, is)) h.1 e

-- the first that stands where the place of this number does has this number
pub number_of : (documents : Documents) → AreOrdered documents → AreShort documents → (n : ℕ) (s : Site)
    → slice_get (sites documents) n ≡ Some s
    → position_from (stands_at s.document s.pointer) 0 (sites documents) ≡ Some n
number_of documents a h n s e =
    let m = made_at site (places_from 0 documents) n s e in
    ap (λ x. position_from (stands_at x.document x.pointer) 0 (sites documents)) m.is
    ∙ number_from m.from (places_from 0 documents) n 0 n (omega arith) (all_distinct 0 documents a h) m.found

-- and is it
pub found_there : (documents : Documents) → AreOrdered documents → AreShort documents → (n : ℕ) (s : Site)
    → slice_get (sites documents) n ≡ Some s
    → find (stands_at s.document s.pointer) (sites documents) ≡ Some s
found_there documents a h n s e =
    number_finds_it (stands_at s.document s.pointer) (sites documents) n s (number_of documents a h n s e) e

-- the place of the number that is found stands there
pub stands_there : (documents : Documents) (d : ℕ) (p : Tokens) (n : ℕ) (s : Site)
    → position_from (stands_at d p) 0 (sites documents) ≡ Some n → slice_get (sites documents) n ≡ Some s → IsAt d p s
stands_there documents d p n s h e = at_place d p s (number_passes (stands_at d p) (sites documents) n s h e)
