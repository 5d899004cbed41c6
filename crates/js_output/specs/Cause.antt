-- Causes of a fault, in the order in which they are looked for: the first that applies is returned.
use Rattle.std.specs.Prelude.{◌≡◌, List, [], ◌∷◌, Bool, true, false, if◌then◌else◌, ◌⊎◌, ⊤}
use Rattle.js_output.specs.declared.fault.Fault.{Fault}
use Rattle.js_output.specs.declared.fault.Fault.TheVariants as fault

-- A cause that applies. A given one may be returned or not: no definition decides it.
pub record Cause : Type 0 where
  pub fault : Fault
  pub given : Bool

abbrev pub Causes : Type 0
Causes = List Cause

-- a cause, where it applies
abbrev pub cause : Bool → Fault → Causes
cause applies f = if applies then record { fault = f; given = false } ∷ [] else []

-- a given cause, where it applies
abbrev pub given_cause : Bool → Fault → Causes
given_cause applies f = if applies then record { fault = f; given = true } ∷ [] else []

-- nothing prevents going on: a given cause may be passed over
abbrev pub MayGoOn : Causes → Type 0
MayGoOn [] = ⊤
MayGoOn (c ∷ causes) = (c.given ≡ true) × MayGoOn causes

-- the fault is that of the first cause, or of one that only given ones precede
abbrev pub IsFirstFault : Causes → Fault → Type 0
IsFirstFault [] f = ⊥
IsFirstFault (c ∷ causes) f = (c.fault ≡ f) ⊎ ((c.given ≡ true) × IsFirstFault causes f)

-- a fault by these causes, or lack of memory
abbrev pub FailsBy : Causes → Fault → Type 0
FailsBy causes fault.Memory = ⊤
FailsBy causes fault.Read = ⊥
FailsBy causes fault.Write = ⊥
FailsBy causes f = IsFirstFault causes f

-- ---- going through causes

-- the rest decides about the whole
pub record DecidedBy (whole rest : Causes) : Type 0 where
  pub clear : MayGoOn rest → MayGoOn whole
  pub first : (f : Fault) → IsFirstFault rest f → IsFirstFault whole f
