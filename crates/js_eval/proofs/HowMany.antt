-- How many verdicts are true, by the applications that they are of.
use Rattle.std.specs.Prelude.{◌≡◌, ℕ, ◌+◌, Bool, cond, List, [], ◌∷◌, map, filter, length, count_by, refl}
use Rattle.std.specs.List.{fold}
use Rattle.std.proofs.Common.{sym, ◌∙◌, ap}
use Rattle.std.proofs.lemmas.List.Sums.{length-filter}
use Rattle.js_eval.specs.Passes.{how_many}

counted_from : {A : Type 0} (holds : A → Bool) (n : ℕ) (apps : List A)
    → fold (λ m b. m + cond b 1 0) n (map holds apps) ≡ fold (λ m a. m + cond (holds a) 1 0) n apps
counted_from holds n [] = refl
counted_from holds n (a ∷ apps) = counted_from holds (n + cond (holds a) 1 0) apps

counted : {A : Type 0} (holds : A → Bool) (apps : List A) → how_many (map holds apps) ≡ count_by holds apps
counted holds apps = counted_from holds 0 apps

-- as many of the verdicts are true as applications hold
pub count_of : {A : Type 0} (holds : A → Bool) (apps : List A) (verdicts : List Bool) → verdicts ≡ map holds apps
    → how_many verdicts ≡ length (filter holds apps)
count_of holds apps verdicts e = ap how_many e ∙ (counted holds apps ∙ sym (length-filter holds apps))
