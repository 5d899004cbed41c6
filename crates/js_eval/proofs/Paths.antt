-- The places of a path, and what stands at a place.
use Rattle.std.specs.Prelude.{◌≡◌, ℕ, true, List, [], ◌∷◌, Option, Some, None, ◌++◌, codes, map}
use Rattle.std.specs.Prelude.{option_map, option_to_list, unwrap_or, length, ◌==◌, refl}
use Rattle.std.proofs.Common.{ap, sym, ◌∙◌}
use Rattle.std.specs.List.{list_all}
use Rattle.std.proofs.lemmas.Bool.{and_parts, eqb-true}
use Rattle.std.proofs.lemmas.List.{append-nil, append_assoc, nil_from_length}
use Rattle.std.proofs.lemmas.Option.{slice_get-get_or}
use borrow.Author.Tests.{ltb-true}
use Rattle.js_doc.specs.Fragment.{fragment_text, fragment_token}
use Rattle.js_doc.proofs.TokenBytes.{fragment_text-push}
use Rattle.js_doc.specs.Value.{Value}
use Rattle.js_bundle.specs.Document.{Documents}
use Rattle.js_bundle.specs.Location.{absolute_location, canonical, location, way}
use Rattle.js_bundle.specs.Resource.{Site, sites}
use Rattle.js_bundle.specs.Schemas.{is_place, place_at, path_at}
use Rattle.js_eval.specs.Sited.{numbered_site, nowhere}

one : (o : Option Site) (s : Site) → o ≡ Some s → option_to_list o ≡ unwrap_or o nowhere ∷ []
one o s e = cc

its_schema : (o : Option Site) (v : Value) → option_map (λ s. s.schema) o ≡ Some v → v ≡ (unwrap_or o nowhere).schema
its_schema None v e = absurd (cc)
its_schema (Some s) v e = cc

pub schema_is : (documents : Documents) (n : ℕ) (v : Value) → option_map (λ s. s.schema) (place_at documents n) ≡ Some v
    → v ≡ (numbered_site documents n).schema
schema_is documents n v e = its_schema (place_at documents n) v e

its_location : (o : Option Site) (t : List ℕ) → option_map location o ≡ Some t
    → t ≡ absolute_location (unwrap_or o nowhere) []
its_location None t e = absurd (cc)
its_location (Some s) t e = cc

pub location_is : (documents : Documents) (n : ℕ) (t : List ℕ) → option_map location (place_at documents n) ≡ Some t
    → t ≡ absolute_location (numbered_site documents n) []
location_is documents n t e = its_location (place_at documents n) t e

-- a keyword's location is its place's, one token further
one_further : (s : Site) (keyword : List ℕ)
    → absolute_location s [] ++ fragment_token keyword ≡ absolute_location s (keyword ∷ [])
one_further s keyword =
    append_assoc (canonical s) (codes "#" ++ fragment_text (way s ++ [])) (fragment_token keyword)
    ∙ ap (λ x. canonical s ++ (codes "#" ++ x)) (ap (λ w. fragment_text w ++ fragment_token keyword)
    (append-nil (way s)) ∙ sym (fragment_text-push (way s) keyword))

pub keyword_location_is : (documents : Documents) (n : ℕ) (keyword t u : List ℕ)
    → option_map location (place_at documents n) ≡ Some t → u ≡ t ++ fragment_token keyword
    → u ≡ absolute_location (numbered_site documents n) (keyword ∷ [])
keyword_location_is documents n keyword t u e f =
    f ∙ ap (λ x. x ++ fragment_token keyword) (location_is documents n t e)
    ∙ one_further (numbered_site documents n) keyword

-- one that is lent in two pieces, of which the second one is empty
pub in_one_piece : (lent rest token u : List ℕ) → (length rest == 0) ≡ true → u ≡ lent ++ token
    → u ≡ (lent ++ rest) ++ token
in_one_piece lent rest token u none e =
    e ∙ ap (λ x. x ++ token) (sym (append-nil lent))
    ∙ ap (λ r. (lent ++ r) ++ token) (sym (nil_from_length rest (eqb-true (length rest) 0 none)))

pub first_alone : (o : Option (List ℕ)) (lent rest : List ℕ) → (length rest == 0) ≡ true
    → o ≡ Some (lent ++ rest) → o ≡ Some lent
first_alone o lent rest none e = e ∙ ap (λ r. Some (lent ++ r)) (nil_from_length rest (eqb-true (length rest) 0 none))
    ∙ ap Some (append-nil lent)

-- where all are places, those of a path are the places that they stand for
pub path_is : (documents : Documents) (path : List ℕ) → list_all (is_place documents) path ≡ true
    → path_at documents path ≡ map (numbered_site documents) path
path_is documents [] h = refl
path_is documents (n ∷ path) h =
    let p = and_parts _ _ h in
    let e = slice_get-get_or (sites documents) n nowhere (ltb-true n (length (sites documents)) p.0) in
    let a = one (place_at documents n) _ e in
    let b = path_is documents path p.1 in
    cc
