-- What is kept, as it is seen.
use Rattle.std.specs.Prelude.{◌≡◌, ℕ, Bool, true, false, List, ◌++◌, map, take, drop, refl}
use Rattle.std.proofs.lemmas.List.{map-append, take-map, drop-map}
use Rattle.js_eval.specs.Walk.Keeping.{keeps}
use Rattle.js_eval.specs.declared.evaluation.keeping.Origin.{Origin}
use Rattle.js_eval.specs.declared.evaluation.keeping.Origin.TheVariants.{Applied, Holding, Below, Nowhere}

kept_seen : {A B : Type 0} (f : A → B) (s : Origin) (h : Bool) (own given : List A)
    → map f (keeps s h own given) ≡ keeps s h (map f own) (map f given)
kept_seen f Applied h own given = refl
kept_seen f Holding true own given = refl
kept_seen f Holding false own given = refl
kept_seen f Below h own given = refl
kept_seen f Nowhere h own given = refl

pub kept_mapped : {A B : Type 0} (f : A → B) (s : Origin) {s' : Origin} → s ≡ s' → (h : Bool) (own : List A) {own' :
    List B} → map f own ≡ own' → (n : ℕ) (list list' : List A) → list' ≡ take n list ++ keeps s h own (drop n list)
    → map f list' ≡ take n (map f list) ++ keeps s' h own' (drop n (map f list))
kept_mapped f s {s' = s'} e h own {own' = own'} o n list list' q =
    let a = map-append f (take n list) (keeps s h own (drop n list)) in
    let b = kept_seen f s h own (drop n list) in
    let t = take-map f n list in
    let d = drop-map f n list in
    cc

pub kept_given : {A : Type 0} (s : Origin) {s' : Origin} → s ≡ s' → (h : Bool) (own : List A) {own' : List A}
    → own ≡ own' → (n : ℕ) (list list' : List A) → list' ≡ take n list ++ keeps s h own (drop n list)
    → list' ≡ take n list ++ keeps s' h own' (drop n list)
kept_given s e h own o n list list' q = cc
