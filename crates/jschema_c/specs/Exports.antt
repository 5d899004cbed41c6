-- What C sees of each call, by what the handle held before and after.
use Rattle.std.specs.Prelude.{◌≡◌, ℕ, List, [], length, Option, Some, None}
use Rattle.jschema_c.specs.declared.refusal.RefusalParts.{RefusalParts}
use Rattle.jschema_c.specs.declared.session.Phase.TheVariants as phase
use Rattle.jschema_c.specs.declared.session.Session.{Session}
use Rattle.jschema_c.specs.declared.status.Status.{Status}
use Rattle.jschema_c.specs.declared.status.Status.TheVariants as status
use Rattle.js_eval.specs.Result.{standard_limits}
use Rattle.jschema_c.specs.LastCall.{IsSilent, copied}
use Rattle.jschema_c.specs.Session.{AddCall, FinishCall, ListCall, EntryCall, CheckCall, IsFinished, finished_in}
use Rattle.jschema_c.specs.Session.{SetsLimits}
use Rattle.jschema_c.specs.Status.{code}
use Rattle.jschema_c.specs.Showing.{ShowCall}
use Rattle.jschema_c.specs.Tracing.{TraceCall}
use Rattle.jschema_c.specs.Upgrading.{UpgradeCall}

-- no document and no entry, the standard limits, and nothing said
pub record IsNew (s : Session) : Type 0 where
  pub none : s.phase ≡ phase.Adding []
  pub limits : s.limits ≡ standard_limits
  pub entries : s.entries.items ≡ []
  pub silent : IsSilent s.said

-- the number is that of a status, which the call answers
abbrev pub AnswersNumber : ℕ → (Status → Type 0) → Type 0
AnswersNumber number Call = (s : Status) × (number ≡ code s) × Call s

-- a call on an empty handle is misused and leaves it empty
abbrev pub OnHandle : (Session → Session → Status → Type 0) → Option Session → Option Session → ℕ → Type 0
OnHandle Call (Some before) (Some after) number = AnswersNumber number (Call before after)
OnHandle Call (Some before) None number = ⊥
OnHandle Call None after number = (number ≡ code status.Misused) × (after ≡ None)

-- the entries and the limits stay
pub record KeepsEntries (before after : Session) : Type 0 where
  pub entries : after.entries.items ≡ before.entries.items
  pub limits : after.limits ≡ before.limits

abbrev pub SessionLimits : ℕ → ℕ → Session → Session → Status → Type 0
SessionLimits applications nodes before after s =
    SetsLimits applications nodes before.limits after.limits s
    × (IsSilent after.said × ((after.phase ≡ before.phase) × (after.entries.items ≡ before.entries.items)))

abbrev pub SessionAdds : List ℕ → List ℕ → Session → Session → Status → Type 0
SessionAdds uri document before after s = AddCall uri document before.phase after.phase s after.said
    × KeepsEntries before after

abbrev pub SessionUpgrades : List ℕ → Session → Session → Status → Type 0
SessionUpgrades dialect before after s = UpgradeCall dialect before.phase after.phase s after.said
    × KeepsEntries before after

abbrev pub SessionFinishes : Session → Session → Status → Type 0
SessionFinishes before after s = FinishCall before.phase after.phase s after.said × KeepsEntries before after

abbrev pub SessionLists : Session → Session → Status → Type 0
SessionLists before after s =
    ListCall before.phase s after.said × ((after.phase ≡ before.phase) × KeepsEntries before after)

abbrev pub SessionShows : ℕ → Session → Session → Status → Type 0
SessionShows number before after s =
    ShowCall before.phase number s after.said × ((after.phase ≡ before.phase) × KeepsEntries before after)

abbrev pub SessionTraces : List ℕ → List ℕ → List ℕ → List ℕ → Session → Session → Status → Type 0
SessionTraces dialect document pointers ends before after s =
    TraceCall dialect document pointers ends s after.said
    × ((after.phase ≡ before.phase) × KeepsEntries before after)

abbrev pub SessionEnters : List ℕ → ℕ → ℕ → Session → Session → Status → Type 0
SessionEnters uri old new before after s =
    EntryCall before.phase uri (before.entries.items, old) (after.entries.items, new) s after.said
    × ((after.phase ≡ before.phase) × (after.limits ≡ before.limits))

abbrev pub SessionChecks : ℕ → List ℕ → ℕ → Session → Session → Status → Type 0
SessionChecks entry instance format before after s =
    CheckCall before.phase before.limits before.entries.items entry instance format s after.said
    × ((after.phase ≡ before.phase) × KeepsEntries before after)

-- a session over the same finished schemas, with the same limits and entries, and nothing said
pub record IsSharedBy (s shared : Session) : Type 0 where
  pub finished : IsFinished s.phase
  pub schemas : finished_in shared.phase ≡ finished_in s.phase
  pub limits : shared.limits ≡ s.limits
  pub entries : shared.entries.items ≡ s.entries.items
  pub silent : IsSilent shared.said

-- a session is what a handle holds now, or that is as before
abbrev pub IsPut : Session → Option Session → Option Session → Status → Type 0
IsPut s before after status.Done = after ≡ Some s
IsPut s before after status.Failed = after ≡ before
IsPut s before after _ = ⊥

-- the other handle holds a session that shares the schemas of the one, or all is as before
abbrev pub Shares : Option Session → Option Session → Option Session → Status → Type 0
Shares giver before after status.Done = (s : Session) × (shared : Session) × (giver ≡ Some s) × IsSharedBy s shared
    × (after ≡ Some shared)
Shares giver before after status.Misused = (after ≡ before)
    × ((s : Session) → giver ≡ Some s → finished_in s.phase ≡ None)
Shares giver before after status.Failed = (after ≡ before)
    × ((s : Session) × (giver ≡ Some s) × IsFinished s.phase)
Shares giver before after _ = ⊥

-- what the last call on a handle refused
abbrev pub refusal_in : Option Session → Option RefusalParts
refusal_in None = None
refusal_in (Some s) = s.said.refusal

-- the caller's memory for the parts of a refusal
pub record RefusalRoom : Type 0 where
  pub kind : ℕ
  pub subject : ℕ
  pub document : ℕ
  pub place : List ℕ
  pub place_length : ℕ

abbrev pub refusal_room : ℕ → ℕ → ℕ → List ℕ → ℕ → RefusalRoom
refusal_room kind subject document place place_length =
    record { kind = kind; subject = subject; document = document; place = place; place_length = place_length }

-- it has these parts, and as much of the place as fits
pub record IsTold (parts : RefusalParts) (before after : RefusalRoom) : Type 0 where
  pub kind : after.kind ≡ parts.kind
  pub subject : after.subject ≡ parts.subject
  pub document : after.document ≡ parts.document
  pub place : after.place ≡ copied parts.place.items before.place
  pub place_length : after.place_length ≡ length parts.place.items

-- without a refusal it stays
abbrev pub TellsRefusal : Option RefusalParts → RefusalRoom → RefusalRoom → Status → Type 0
TellsRefusal None before after s = (s ≡ status.Misused) × (after ≡ before)
TellsRefusal (Some parts) before after s = (s ≡ status.Done) × IsTold parts before after
