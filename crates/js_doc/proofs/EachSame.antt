-- Two functions that make the same list of one have the same result for each of its elements.
use Rattle.std.proofs.Common.{◌≡◌, List, [], ◌∷◌, map, get_or, drop, ap}
use Rattle.std.specs.List.{AllByRecursion}

pub each_same : {A B : Type 0} (f g : A → B) (xs : List A) → map f xs ≡ map g xs → AllByRecursion (λ x. f x ≡ g x) xs
each_same f g [] e = tt
each_same f g (x ∷ xs) e = (ap (λ ys. get_or ys 0 (f x)) e, each_same f g xs (ap (drop 1) e))
