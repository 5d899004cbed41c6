-- Lists of causes: one part after another.
use Rattle.std.proofs.Common.{◌≡◌, ◌⊎◌, [], ◌∷◌, ◌++◌, Bool, true, false, inl, inr, refl, sym, subst}
use Rattle.js_output.specs.Cause.{Cause, Causes, cause, MayGoOn, IsFirstFault, FailsBy, DecidedBy}
use Rattle.js_output.specs.declared.fault.Fault.{Fault}
use Rattle.js_output.specs.declared.fault.Fault.TheVariants as fault

pub clear-append : (xs ys : Causes) → MayGoOn xs → MayGoOn ys → MayGoOn (xs ++ ys)
clear-append [] ys p q = q
clear-append (c ∷ xs) ys p q = (p.0, clear-append xs ys p.1 q)

pub first-append : (xs ys : Causes) (f : Fault) → IsFirstFault xs f → IsFirstFault (xs ++ ys) f
first-append [] ys f h = absurd h
first-append (c ∷ xs) ys f (inl e) = inl e
first-append (c ∷ xs) ys f (inr h) = inr (h.0, first-append xs ys f h.1)

pub first-later : (xs ys : Causes) (f : Fault) → MayGoOn xs → IsFirstFault ys f → IsFirstFault (xs ++ ys) f
first-later [] ys f p h = h
first-later (c ∷ xs) ys f p h = inr (p.0, first-later xs ys f p.1 h)

pub fails-append : (xs ys : Causes) (f : Fault) → FailsBy xs f → FailsBy (xs ++ ys) f
fails-append xs ys fault.Memory h = tt
fails-append xs ys fault.Read h = absurd h
fails-append xs ys fault.Write h = absurd h
fails-append xs ys f h = first-append xs ys f h

pub fails-later : (xs ys : Causes) (f : Fault) → MayGoOn xs → FailsBy ys f → FailsBy (xs ++ ys) f
fails-later xs ys fault.Memory p h = tt
fails-later xs ys fault.Read p h = absurd h
fails-later xs ys fault.Write p h = absurd h
fails-later xs ys f p h = first-later xs ys f p h

-- ---- one part after another, taken apart

pub clear-apart : (xs ys : Causes) → MayGoOn (xs ++ ys) → MayGoOn xs × MayGoOn ys
clear-apart [] ys h = (tt, h)
clear-apart (c ∷ xs) ys h = let (p, q) = clear-apart xs ys h.1 in ((h.0, p), q)

later_past : (c : Cause) (xs ys : Causes) (f : Fault) → c.given ≡ true
    → IsFirstFault xs f ⊎ (MayGoOn xs × IsFirstFault ys f)
    → IsFirstFault (c ∷ xs) f ⊎ (MayGoOn (c ∷ xs) × IsFirstFault ys f)
later_past c xs ys f given (inl h) = inl (inr (given, h))
later_past c xs ys f given (inr h) = inr ((given, h.0), h.1)

pub first-apart : (xs ys : Causes) (f : Fault) → IsFirstFault (xs ++ ys) f
    → IsFirstFault xs f ⊎ (MayGoOn xs × IsFirstFault ys f)
first-apart [] ys f h = inr (tt, h)
first-apart (c ∷ xs) ys f (inl e) = inl (inl e)
first-apart (c ∷ xs) ys f (inr h) = later_past c xs ys f h.0 (first-apart xs ys f h.1)

-- ---- a loop over parts: the rest decides about the whole

pub decided_itself : (xs : Causes) → DecidedBy xs xs
decided_itself xs = record { clear = λ h. h; first = λ f h. h }

pub decided_past : (whole xs rest : Causes) → DecidedBy whole (xs ++ rest) → MayGoOn xs → DecidedBy whole rest
decided_past whole xs rest l p =
    record { clear = λ h. l.clear (clear-append xs rest p h); first = λ f h. l.first f (first-later xs rest f p h) }

pub decided_stop : (whole xs rest : Causes) (f : Fault) → DecidedBy whole (xs ++ rest) → FailsBy xs f → FailsBy whole f
decided_stop whole xs rest fault.Memory l h = tt
decided_stop whole xs rest fault.Read l h = absurd h
decided_stop whole xs rest fault.Write l h = absurd h
decided_stop whole xs rest f l h = l.first f (first-append xs rest f h)

-- ---- one cause, and those after it

pub clear_past : (b : Bool) (f : Fault) (rest : Causes) → b ≡ false → MayGoOn rest → MayGoOn (cause b f ++ rest)
clear_past b f rest e h = subst (λ t. MayGoOn (cause t f ++ rest)) (sym e) h

pub first_here : (b : Bool) (f : Fault) (rest : Causes) → b ≡ true → IsFirstFault (cause b f ++ rest) f
first_here b f rest e = subst (λ t. IsFirstFault (cause t f ++ rest) f) (sym e) (inl refl)

pub first_past : (b : Bool) (f : Fault) (rest : Causes) (g : Fault) → b ≡ false → IsFirstFault rest g
    → IsFirstFault (cause b f ++ rest) g
first_past b f rest g e h = subst (λ t. IsFirstFault (cause t f ++ rest) g) (sym e) h
