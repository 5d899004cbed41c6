-- Events, one after another.
use Rattle.std.proofs.Common.{◌≡◌, List, [], ◌∷◌, ◌++◌, refl, ap, sym, subst, ◌∙◌}
use Rattle.js_tree.specs.Events.{Passes, after_all}

pub passes-append : {C E : Type 0} (takes : C → E → C → Type 0) (es fs : List E) (c m d : C) → Passes takes es c m
    → Passes takes fs m d → Passes takes (es ++ fs) c d
passes-append takes [] fs c m d p q = subst (λ x. Passes takes fs x d) (sym p) q
passes-append takes (e ∷ es) fs c m d p q = (p.0, p.1, passes-append takes es fs p.0 m d p.2 q)

-- behind a wrapper
pub passes-inside : {C D E : Type 0} (f : C → D) (takes : D → E → D → Type 0) (es : List E) (c d : C)
    → Passes (λ a e b. takes (f a) e (f b)) es c d → Passes takes es (f c) (f d)
passes-inside f takes [] c d p = ap f p
passes-inside f takes (e ∷ es) c d p = (f p.0, p.1, passes-inside f takes es p.0 d p.2)

-- what follows each event follows all of them
pub passes-after_all : {C S E : Type 0} (f : C → S) (after : S → E → S) (es : List E) (c d : C)
    → Passes (λ a e b. f b ≡ after (f a) e) es c d → f d ≡ after_all after (f c) es
passes-after_all f after [] c d p = ap f (sym p)
passes-after_all f after (e ∷ es) c d p = passes-after_all f after es p.0 d p.2 ∙ ap (λ s. after_all after s es) p.1

pub after_all-append : {S E : Type 0} (after : S → E → S) (s : S) (es fs : List E)
    → after_all after s (es ++ fs) ≡ after_all after (after_all after s es) fs
after_all-append after s [] fs = refl
after_all-append after s (e ∷ es) fs = after_all-append after (after s e) es fs
