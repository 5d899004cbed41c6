-- A loop over the places, one place more.
use Rattle.std.proofs.Common.{◌≡◌, ℕ, ◌+◌, ◌<◌, List, [], ◌∷◌, ◌++◌, map, take, drop, get_or}
use Rattle.std.proofs.Common.{length, sym, ap, ◌∙◌, subst, append_assoc}
use Rattle.std.proofs.lemmas.List.{take_more, drop_more, map-append}
use Rattle.js_bundle.specs.declared.scan.site.Site as rust
use Rattle.js_bundle.specs.Resource.{Site}
use Rattle.js_bundle.specs.code.Scan.{site_of}

pub map_drop_more : {A B : Type 0} (f : A → B) (xs : List A) (i : ℕ) (x : A) → i < length xs → x ≡ get_or xs i x
    → map f (drop i xs) ≡ f x ∷ map f (drop (i + 1) xs)
map_drop_more f xs i x h e = ap (map f) (drop_more xs i x h) ∙ ap (λ y. f y ∷ map f (drop (i + 1) xs)) (sym e)

pub piece_next : {A : Type 0} (old new piece rest all : List A) → new ≡ old ++ piece
    → old ++ (piece ++ rest) ≡ all → new ++ rest ≡ all
piece_next old new piece rest all e recorded = ap (λ r. r ++ rest) e ∙ append_assoc old piece rest ∙ recorded

pub map_take_more : {A B : Type 0} (f : A → B) (xs : List A) (i : ℕ) (x : A) → i < length xs → x ≡ get_or xs i x
    → map f (take (i + 1) xs) ≡ map f (take i xs) ++ f x ∷ []
map_take_more f xs i x h e = ap (map f) (take_more xs i x h) ∙ map-append f (take i xs) (get_or xs i x ∷ [])
    ∙ ap (λ y. map f (take i xs) ++ f y ∷ []) (sym e)

-- what is kept of one place more
pub sparse_next : {A B : Type 0} (g : A → B) (f : Site → B) (ss : List rust.Site) (i : ℕ) (x : rust.Site)
    (old new : List A) (a : A) (all : List B) → i < length ss → x ≡ get_or ss i x
    → new ≡ old ++ a ∷ [] → g a ≡ f (site_of x) → map g old ++ map f (map site_of (drop i ss)) ≡ all
    → map g new ++ map f (map site_of (drop (i + 1) ss)) ≡ all
sparse_next g f ss i x old new a all h e n m recorded =
    piece_next (map g old) (map g new) (f (site_of x) ∷ []) (map f (map site_of (drop (i + 1) ss))) all
    (ap (map g) n ∙ map-append g old (a ∷ []) ∙ ap (λ b. map g old ++ b ∷ []) m)
    (subst (λ r. map g old ++ map f r ≡ all) (map_drop_more site_of ss i x h e) recorded)

-- what one place more gives
pub place_next : {B : Type 0} (f : Site → B) (ss : List rust.Site) (i : ℕ) (x : rust.Site) (old new : List B) (b : B)
    (all : List B) → i < length ss → x ≡ get_or ss i x
    → new ≡ old ++ b ∷ [] → b ≡ f (site_of x) → old ++ map f (map site_of (drop i ss)) ≡ all
    → new ++ map f (map site_of (drop (i + 1) ss)) ≡ all
place_next f ss i x old new b all h e n m recorded =
    piece_next old new (f (site_of x) ∷ []) (map f (map site_of (drop (i + 1) ss))) all (n ∙ ap (λ y. old ++ y ∷ []) m)
    (subst (λ r. old ++ map f r ≡ all) (map_drop_more site_of ss i x h e) recorded)
