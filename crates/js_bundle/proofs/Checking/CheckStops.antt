-- Where a check of several parts stops.
use Rattle.std.proofs.Common.{◌≡◌, List, [], ◌∷◌, ◌++◌, inl, inr, refl, Result, Ok, Err, IfErr, OnOk}
use Rattle.js_bundle.specs.declared.refusal.Refusal.{Refusal}
use Rattle.js_bundle.specs.declared.check.fault.CheckFault.{CheckFault}
use Rattle.js_bundle.specs.declared.check.fault.CheckFault.TheVariants.{Memory, Refused}
use Rattle.js_bundle.specs.Candidate.{Candidate, decided_in, IsClear, IsFirst, IsStopped}
use Rattle.js_bundle.specs.code.Leads.{Leads}

pub clear_append : (xs ys : List Candidate) → IsClear xs → IsClear ys → IsClear (xs ++ ys)
clear_append [] ys h g = g
clear_append (c ∷ xs) ys h g = (h.0, clear_append xs ys h.1 g)

pub first_here : (xs ys : List Candidate) (r : Refusal) → IsFirst xs r → IsFirst (xs ++ ys) r
first_here [] ys r h = absurd h
first_here (c ∷ xs) ys r (inl e) = inl e
first_here (c ∷ xs) ys r (inr h) = inr (h.0, first_here xs ys r h.1)

pub first_later : (xs ys : List Candidate) (r : Refusal) → IsClear xs → IsFirst ys r → IsFirst (xs ++ ys) r
first_later [] ys r h g = g
first_later (c ∷ xs) ys r h g = inr (h.0.0, first_later xs ys r h.1 g)

pub stopped_here : (xs ys : List Candidate) (e : CheckFault) → IsStopped xs e → IsStopped (xs ++ ys) e
stopped_here xs ys Memory h = tt
stopped_here xs ys (Refused r) h = first_here xs ys r h

pub stopped_later : (xs ys : List Candidate) (e : CheckFault) → IsClear xs → IsStopped ys e → IsStopped (xs ++ ys) e
stopped_later xs ys Memory h g = tt
stopped_later xs ys (Refused r) h g = first_later xs ys r h g

pub leads_itself : (xs : List Candidate) → Leads xs xs
leads_itself xs = record { clear = λ h. h; first = λ r h. h }

pub leads_past : (whole xs rest : List Candidate) → Leads whole (xs ++ rest) → IsClear xs → Leads whole rest
leads_past whole xs rest l h =
    record { clear = λ g. l.clear (clear_append xs rest h g); first = λ r g. l.first r (first_later xs rest r h g) }

pub leads_stop : (whole xs rest : List Candidate) (e : CheckFault) → Leads whole (xs ++ rest)
    → IsStopped xs e → IsStopped whole e
leads_stop whole xs rest Memory l h = tt
leads_stop whole xs rest (Refused r) l h = l.first r (first_here xs rest r h)

pub later_err : {A : Type 0} (xs ys : List Candidate) → IsClear xs → (r : Result A CheckFault) → IfErr r (IsStopped ys)
    → IfErr r (IsStopped (xs ++ ys))
later_err xs ys h (Ok u) g = tt
later_err xs ys h (Err e) g = stopped_later xs ys e h g

pub clear_from_ok : {A : Type 0} (xs ys : List Candidate) → IsClear xs → (r : Result A CheckFault) → OnOk r (IsClear ys)
    → OnOk r (IsClear (xs ++ ys))
clear_from_ok xs ys h (Ok u) g = clear_append xs ys h g
clear_from_ok xs ys h (Err e) g = tt

pub clear_here : (xs ys : List Candidate) → IsClear (xs ++ ys) → IsClear xs
clear_here [] ys h = tt
clear_here (c ∷ xs) ys h = (h.0, clear_here xs ys h.1)

pub clear_there : (xs ys : List Candidate) → IsClear (xs ++ ys) → IsClear ys
clear_there [] ys h = h
clear_there (c ∷ xs) ys h = clear_there xs ys h.1

-- where a list is clear none of its refusals is decided
pub none_decided : (cs : List Candidate) → IsClear cs → decided_in cs ≡ []
none_decided [] h = refl
none_decided (c ∷ cs) h = rw h.0.0 (none_decided cs h.1)
