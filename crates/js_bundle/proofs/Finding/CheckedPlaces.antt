-- What is kept of a place.
use Rattle.std.proofs.Common.{◌≡◌, ℕ, ◌<◌, List, map, length, get_or, slice_get, true, option_map}
use Rattle.std.proofs.Common.{Some, sym, ap, ◌∙◌, subst, ◌+◌, [], ◌∷◌, ◌++◌, arith}
use Rattle.std.proofs.lemmas.Bool.{ltb-true}
use Rattle.std.proofs.lemmas.List.{length-map, map-id}
use Rattle.std.proofs.lemmas.List.FromFn.{map-range_with_len_more}
use Rattle.std.specs.List.{range_with_len}
use Rattle.std.proofs.lemmas.Option.{slice_get-map, slice_get-get_or}
use Rattle.js_bundle.specs.declared.check.checked_site.CheckedSite as rust
use Rattle.js_bundle.specs.Document.{Documents}
use Rattle.js_bundle.specs.Resource.{Site, sites}
use Rattle.js_bundle.specs.PlaceNumber.{is_place, place_at}
use Rattle.js_bundle.specs.code.CheckedSite.{checked_site, checked_site_of}

-- ---- lists with an entry for each place

-- as many are kept as there are places
pub as_many : {A B : Type 0} (g : A → B) (f : Site → B) (docs documents : Documents) (checked : List A)
    → docs ≡ documents
    → map g checked ≡ map f (sites docs) → length checked ≡ length (sites documents)
as_many g f docs documents checked same e =
    sym (length-map checked g) ∙ ap length e ∙ length-map (sites docs) f ∙ ap (λ ds. length (sites ds)) same

-- what is kept under a place's number is that place's
pub checked_of : {A B : Type 0} (g : A → B) (f : Site → B) (docs documents : Documents) (checked : List A) (n place : ℕ)
    (x : A) → docs ≡ documents → n ≡ place → map g checked ≡ map f (sites docs)
    → is_place documents place ≡ true → x ≡ get_or checked n x → option_map f (place_at documents place) ≡ Some (g x)
checked_of g f docs documents checked n place x same number e there is =
    let within : n < length checked =
    subst (λ m. m < length checked) (sym number) (subst (λ l. place < l)
    (sym (as_many g f docs documents checked same e))
    (ltb-true place (length (sites documents)) there)) in
    let here : option_map f (place_at docs n) ≡ Some (g x) =
    sym (slice_get-map f (sites docs) n) ∙ ap (λ l. slice_get l n) (sym e) ∙ slice_get-map g checked n
    ∙ ap (option_map g) (slice_get-get_or checked n x within ∙ ap Some (sym is)) in
    subst (λ m. option_map f (place_at documents m) ≡ Some (g x)) number
    (subst (λ ds. option_map f (place_at ds n) ≡ Some (g x)) same here)

-- the same, of what is kept as it is recorded
pub checked_as : {B : Type 0} (f : Site → B) (docs documents : Documents) (checked : List B) (n place : ℕ) (x : B)
    → docs ≡ documents → n ≡ place → checked ≡ map f (sites docs)
    → is_place documents place ≡ true → x ≡ get_or checked n x → option_map f (place_at documents place) ≡ Some x
checked_as f docs documents checked n place x same number e there is =
    checked_of (λ b. b) f docs documents checked n place x same number (map-id checked ∙ e) there is

pub kept_site_at : (docs documents : Documents) (checked : List rust.CheckedSite) (n place : ℕ) (x : rust.CheckedSite)
    → docs ≡ documents → n ≡ place → map checked_site_of checked ≡ map checked_site (sites docs)
    → is_place documents place ≡ true → x ≡ get_or checked n x
    → option_map checked_site (place_at documents place) ≡ Some (checked_site_of x)
kept_site_at = checked_of checked_site_of checked_site

-- ---- all numbers, one more

pub one_more : (n : ℕ) → range_with_len 0 (n + 1) ≡ range_with_len 0 n ++ n ∷ []
one_more n =
    sym (map-id (range_with_len 0 (n + 1))) ∙ map-range_with_len_more (λ x. x) 0 n n (omega arith)
    ∙ ap (λ l. l ++ n ∷ []) (map-id (range_with_len 0 n))
