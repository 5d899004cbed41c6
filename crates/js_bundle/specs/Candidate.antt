-- Lists of refusals in order, and which of them may be answered.
use Rattle.std.specs.Prelude.{◌≡◌, List, [], ◌∷◌, Bool, true, false, ◌⊎◌, if◌then◌else◌}
use Rattle.js_bundle.specs.declared.refusal.Refusal.{Refusal}
use Rattle.js_bundle.specs.declared.check.fault.CheckFault.{CheckFault}
use Rattle.js_bundle.specs.declared.check.fault.CheckFault.TheVariants.{Memory, Refused}

-- A refusal that may come. It is decided if it has to come where none comes before it, and given if it may come or not.
-- Documents that have a given one are accepted only where it is allowed: so they may be where a pattern is too large
-- for `regex`, since no definition says when it is, and they never are where a pattern nests too deep for it.
pub record Candidate : Type 0 where
  pub refusal : Refusal
  pub decided : Bool
  pub allowed : Bool

-- the refusals that have to come, in order
abbrev pub decided_in : List Candidate → List Refusal
decided_in [] = []
decided_in (c ∷ cs) = if c.decided then c.refusal ∷ decided_in cs else decided_in cs

-- documents that have it may be accepted
abbrev pub IsAllowed : Candidate → Type 0
IsAllowed c = (c.decided ≡ false) × (c.allowed ≡ true)

-- none is decided, and each is allowed
abbrev pub IsClear : List Candidate → Type 0
IsClear [] = Unit {0}
IsClear (c ∷ cs) = IsAllowed c × IsClear cs

-- the refusal is the first that is decided, or a given one before it
abbrev pub IsFirst : List Candidate → Refusal → Type 0
IsFirst [] r = ⊥
IsFirst (c ∷ cs) r = (r ≡ c.refusal) ⊎ ((c.decided ≡ false) × IsFirst cs r)

-- a check of these may stop so; want of memory may come at any time
abbrev pub IsStopped : List Candidate → CheckFault → Type 0
IsStopped cs Memory = Unit {0}
IsStopped cs (Refused r) = IsFirst cs r
