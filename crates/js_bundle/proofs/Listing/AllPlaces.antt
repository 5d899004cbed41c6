-- The list of places of a whole bundle has exactly the places of its documents, each once.
use Rattle.std.proofs.Common.{◌≡◌, ℕ, zero, suc, ◌+◌, List, [], ◌∷◌, ◌++◌, inl, inr}
use Rattle.std.proofs.Common.{Some, slice_get, subst, arith}
use Rattle.std.specs.List.{AllByRecursion}
use Rattle.js_doc.specs.Pointer.{Tokens}
use Rattle.js_doc.specs.Value.{Value}
use Rattle.js_bundle.specs.Document.{Document, Documents}
use Rattle.js_bundle.specs.Place.{IsPlace, SchemaPlace, places_at, places_from, all_places}
use Rattle.js_bundle.specs.PlaceLaws.{ListsPlace, IsPlaceOf, ListsIn, AreDistinct, ListsAll}
use Rattle.js_bundle.specs.Seen.{AreRead}
use Rattle.js_bundle.proofs.Listing.PlacesApart.{all_as}
use Rattle.js_bundle.proofs.Listing.EachListedOnce.{all_distinct}
use Rattle.js_bundle.proofs.Listing.LeastSetListed.{complete}
use Rattle.js_bundle.proofs.Standing.{IsOf, all_of, of_document}

in_left : (n : ℕ) (p : Tokens) (v : Value) (xs ys : List SchemaPlace) → ListsIn n p v xs → ListsIn n p v (xs ++ ys)
in_left n p v [] ys h = absurd h
in_left n p v (x ∷ xs) ys (inl e) = inl e
in_left n p v (x ∷ xs) ys (inr h) = inr (in_left n p v xs ys h)

in_right : (n : ℕ) (p : Tokens) (v : Value) (xs ys : List SchemaPlace) → ListsIn n p v ys → ListsIn n p v (xs ++ ys)
in_right n p v [] ys h = h
in_right n p v (x ∷ xs) ys h = inr (in_right n p v xs ys h)

in_document : (n : ℕ) (p : Tokens) (v : Value) (xs : List SchemaPlace) → AllByRecursion (λ t. t.document ≡ n) xs
    → ListsPlace p v xs → ListsIn n p v xs
in_document n p v [] a h = absurd h
in_document n p v (x ∷ xs) a (inl e) = inl (a.0, e.0, e.1)
in_document n p v (x ∷ xs) a (inr h) = inr (in_document n p v xs a.1 h)

-- the places of the documents, where the first has the number k
listed_from : (k : ℕ) (ds : Documents) (j n : ℕ) (d : Document) (p : Tokens) (v : Value) → n ≡ k + j
    → slice_get ds j ≡ Some d → IsPlace d.root p v → ListsIn n p v (places_from k ds)
listed_from k [] j n d p v is e h = absurd (cc)
listed_from k (c ∷ ds) zero n d p v is e h =
    let same : d ≡ c = cc in
    let number : k ≡ n = omega (arith, is) in
    in_left n p v (places_at k c.uri [] [] c.root) (places_from (suc k) ds)
    (subst (λ m. ListsIn m p v (places_at k c.uri [] [] c.root)) number
    (in_document k p v (places_at k c.uri [] [] c.root) (of_document k c.uri c.root [] [])
    (complete k c.uri c.root p v (subst (λ b. IsPlace b.root p v) same h))))
listed_from k (c ∷ ds) (suc j) n d p v is e h =
    in_right n p v (places_at k c.uri [] [] c.root) (places_from (suc k) ds)
    (listed_from (suc k) ds j n d p v (omega (arith, is)) e h)

place_of : (documents : Documents) (t : SchemaPlace) → IsOf 0 documents t → IsPlaceOf documents t
place_of documents t o =
    let number : o.index ≡ t.document = omega (arith, o.numbered) in
    (o.document, subst (λ i. slice_get documents i ≡ Some o.document) number o.found, o.uri, o.place)

pub lists_all_places : (documents : Documents) → ListsAll documents
lists_all_places documents =
    record {
      sound = all_as (IsOf 0 documents) (IsPlaceOf documents) (place_of documents) (all_places documents)
          (all_of 0 documents);
      complete = λ n d p v e h. listed_from 0 documents n n d p v (omega arith) e h;
    }

pub each_once : (documents : Documents) → AreRead documents → AreDistinct (all_places documents)
each_once documents h = all_distinct 0 documents h.ordered h.short
