-- Calls on a handle, one after another, and what a run over the same documents comes to.
use Rattle.std.specs.Prelude.{◌≡◌, ℕ, List, [], ◌∷◌, slice_get, Option, Some, None, Result, Err, true, false}
use Rattle.js_bundle.specs.Document as bundle
use Rattle.js_bundle.specs.Schemas.{StandsFor}
use Rattle.js_output.specs.Cause.{MayGoOn}
use Rattle.js_output.specs.Documents.{DocumentTexts}
use Rattle.js_output.specs.Entry.{entry_causes, entry_place}
use Rattle.js_output.specs.Finished.{AreFinished}
use Rattle.js_output.specs.Outcome.{Output}
use Rattle.js_output.specs.declared.fault.Fault.{Fault}
use Rattle.jschema_c.specs.declared.last_call.LastCall.{LastCall}
use Rattle.jschema_c.specs.declared.session.Session.{Session}
use Rattle.jschema_c.specs.declared.status.Status.{Status}
use Rattle.jschema_c.specs.declared.status.Status.TheVariants as status
use Rattle.jschema_c.specs.Exports.{IsNew, SessionAdds, SessionFinishes, SessionEnters}
use Rattle.jschema_c.specs.LastCall.{SaysFault, IsSilent, text_in}
use Rattle.jschema_c.specs.Session.{finished_in, IsOutput}

-- these documents were added, one after another
abbrev pub AddsInTurn : Session → DocumentTexts → Session → Type 0
AddsInTurn before [] after = after ≡ before
AddsInTurn before (d ∷ ds) after = (more : Session) × SessionAdds d.0 d.1 before more status.Done
    × AddsInTurn more ds after

-- A new handle has come to `s`: these documents were added and finished, and the entry with this URI got this number.
pub record IsOpenedSession (documents : DocumentTexts) (uri : List ℕ) (number : ℕ) (s : Session) : Type 0 where
  pub empty : Session
  pub full : Session
  pub finished : Session
  pub earlier : ℕ
  pub is_new : IsNew empty
  pub adds : AddsInTurn empty documents full
  pub finishes : SessionFinishes full finished status.Done
  pub enters : SessionEnters uri earlier number finished s status.Done

-- a handle holds the schemas of these documents, and the number is that of the entry with this URI
pub record IsReady (documents : DocumentTexts) (uri : List ℕ) (number : ℕ) (s : Session) : Type 0 where
  pub schemas : bundle.Documents
  pub place : ℕ
  pub held : finished_in s.phase ≡ Some schemas
  pub made : AreFinished documents schemas
  pub clear : MayGoOn (entry_causes schemas uri)
  pub stands : StandsFor schemas place (entry_place schemas uri)
  pub kept : slice_get s.entries.items number ≡ Some place

-- the status of a check and what it says are those of this outcome; or memory ran out
abbrev pub TellsOutcome : (Result Output Fault → Type 0) → Status → LastCall → Type 0
TellsOutcome Expected status.Done said = IsOutput Expected true (text_in said) × (said.refusal ≡ None)
TellsOutcome Expected status.Invalid said = IsOutput Expected false (text_in said) × (said.refusal ≡ None)
TellsOutcome Expected status.Misused said = ⊥
TellsOutcome Expected status.Refused said = (f : Fault) × Expected (Err f) × SaysFault f status.Refused said
TellsOutcome Expected status.Failed said = IsSilent said
