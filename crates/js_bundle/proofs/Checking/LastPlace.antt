-- The last of the places that were gone over.
use Rattle.std.proofs.Common.{◌≡◌, ◌+◌, ◌-◌, ◌<◌, ℕ, List, [], ◌∷◌, ◌++◌, Some, map, take, get_or}
use Rattle.std.proofs.Common.{length, slice_get, refl, sym, ap, ◌∙◌, arith}
use Rattle.std.proofs.lemmas.List.{length-append}
use Rattle.js_bundle.specs.declared.scan.site.Site as rust
use Rattle.js_bundle.specs.code.Positions.{IsLast}
use Rattle.js_bundle.specs.code.Scan.{site_of}
use Rattle.js_bundle.proofs.Indexing.PlaceNext.{map_take_more}

last_there : {A : Type 0} (xs : List A) (x : A) → slice_get (xs ++ x ∷ []) (length xs) ≡ Some x
last_there [] x = refl
last_there (z ∷ xs) x = last_there xs x

last_is : {A : Type 0} (xs : List A) (x : A) → slice_get (xs ++ x ∷ []) (length (xs ++ x ∷ []) - 1) ≡ Some x
last_is xs x =
    let many = length-append xs (x ∷ []) in
    let last : length (xs ++ x ∷ []) - 1 ≡ length xs = omega (arith, many) in
    ap (slice_get (xs ++ x ∷ [])) last ∙ last_there xs x

-- the place that was just gone over is the last
pub last_more : (ss : List rust.Site) (i : ℕ) (x : rust.Site) → i < length ss → x ≡ get_or ss i x
    → IsLast (map site_of (take (i + 1) ss)) (Some (site_of x))
last_more ss i x low is = sym (ap (λ l. slice_get l (length l - 1)) (map_take_more site_of ss i x low is)
    ∙ last_is (map site_of (take i ss)) (site_of x))
