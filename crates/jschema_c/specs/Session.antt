-- What a session answers to each call, and what it holds and says afterwards.
use Rattle.std.specs.Prelude.{◌≡◌, ◌≤◌, ◌<◌, ◌⊎◌, ℕ, List, [], ◌∷◌, ◌++◌, length, slice_get, Option, Some}
use Rattle.std.specs.Prelude.{None, Result, Ok, Err, Bool, true, false, ◌==◌, ⊤}
use Rattle.std.specs.List.{list_any}
use Rattle.std.specs.Str.{IsUtf8}
use Rattle.js_tree.specs.Form.{formats}
use Rattle.js_tree.specs.declared.formats.Format.{Format}
use Rattle.js_bundle.specs.Adding.{IsAdded, IsRefusedBy}
use Rattle.js_bundle.specs.Document.{Documents}
use Rattle.js_bundle.specs.Candidate.{IsClear}
use Rattle.js_bundle.specs.Refusals.{candidates, refusals, IsRefusalOf}
use Rattle.js_bundle.specs.Resource.{sites}
use Rattle.js_bundle.specs.Schemas.{is_place, place_at, StandsFor, IsEntryFault}
use Rattle.js_bundle.specs.declared.refusal.Refusal.{Refusal}
use Rattle.js_bundle.specs.declared.refusal.EntryFault.{EntryFault}
use Rattle.js_eval.specs.Result.{limits_at_most}
use Rattle.js_eval.specs.declared.evaluation.limits.Limits.{Limits}
use Rattle.js_output.specs.Cause.{MayGoOn}
use Rattle.js_output.specs.Device.{input_limit}
use Rattle.js_output.specs.Documents.{fault_by}
use Rattle.js_output.specs.Entry.{entry_causes, entry_fault_of, entry_place}
use Rattle.js_output.specs.Outcome.{Output, InstanceOutcomeWithin}
use Rattle.js_output.specs.Places.{lines_of}
use Rattle.js_output.specs.declared.fault.Fault.{Fault}
use Rattle.js_output.specs.declared.fault.Fault.TheVariants as fault
use Rattle.jschema_c.specs.declared.session.Phase.{Phase}
use Rattle.jschema_c.specs.declared.session.Phase.TheVariants as phase
use Rattle.jschema_c.specs.declared.status.Status.{Status}
use Rattle.jschema_c.specs.declared.status.Status.TheVariants as status
use Rattle.jschema_c.specs.Refusal.{IsRefusal}
use Rattle.jschema_c.specs.LastCall.{Says}
use Rattle.jschema_c.specs.declared.last_call.LastCall.{LastCall}

-- the documents, once they are finished
abbrev pub finished_in : Phase → Option Documents
finished_in (phase.Adding documents) = None
finished_in (phase.Finished schemas) = Some schemas.value

-- ---- URIs

abbrev pub has_zero : List ℕ → Bool
has_zero bytes = list_any (λ b. b == 0) bytes

-- UTF-8 without a zero byte: what can be an argument of the program
abbrev pub IsUriText : List ℕ → Type 0
IsUriText uri = IsUtf8 uri × (has_zero uri ≡ false)

-- ---- adding

abbrev pub AddedTo : Phase → List ℕ → List ℕ → Phase → Type 0
AddedTo (phase.Adding before) uri text (phase.Adding after) = IsUriText uri × (length text ≤ input_limit)
    × IsAdded before uri text after
AddedTo _ uri text _ = ⊥

-- documents were finished before, or the URI isn't such a text
abbrev pub CannotAdd : Phase → List ℕ → Type 0
CannotAdd (phase.Adding documents) uri = ¬ (IsUriText uri)
CannotAdd (phase.Finished schemas) uri = ⊤

-- the text is too large; or it isn't, and the document is refused beside the earlier ones
abbrev pub RefusesDocument : Documents → List ℕ → List ℕ → Fault → Type 0
RefusesDocument documents uri text f = ((input_limit < length text) × (f ≡ fault.InputTooLarge))
    ⊎ ((length text ≤ input_limit)
    × ((r : Refusal) × IsRefusedBy (length documents) uri text r × (f ≡ fault_by r.kind r)))

abbrev pub RefusesText : Phase → List ℕ → List ℕ → Fault → Type 0
RefusesText (phase.Adding documents) uri text f = IsUriText uri × RefusesDocument documents uri text f
RefusesText (phase.Finished schemas) uri text f = ⊥

-- the document is added, or all is as it was
abbrev pub Adds : List ℕ → List ℕ → Phase → Phase → Result Status Fault → Type 0
Adds uri text old new (Ok status.Done) = AddedTo old uri text new
Adds uri text old new (Ok status.Misused) = (new ≡ old) × CannotAdd old uri
Adds uri text old new (Ok _) = ⊥
Adds uri text old new (Err f) = (new ≡ old) × RefusesText old uri text f

abbrev pub AddCall : List ℕ → List ℕ → Phase → Phase → Status → LastCall → Type 0
AddCall uri document old new answered said = (came : Result Status Fault) × Adds uri document old new came
    × Says [] came answered said

-- ---- finishing

abbrev pub FinishedAs : Phase → Phase → Type 0
FinishedAs (phase.Adding documents) new = (finished_in new ≡ Some documents) × IsClear (candidates documents)
    × (refusals documents ≡ [])
FinishedAs (phase.Finished schemas) new = ⊥

abbrev pub IsFinished : Phase → Type 0
IsFinished (phase.Adding documents) = ⊥
IsFinished (phase.Finished schemas) = ⊤

abbrev pub RefusesDocuments : Phase → Fault → Type 0
RefusesDocuments (phase.Adding documents) f = (r : Refusal) × IsRefusalOf documents r × (f ≡ fault_by r.kind r)
RefusesDocuments (phase.Finished schemas) f = ⊥

-- the documents are finished and nothing of them is refused, or all is as it was
abbrev pub Finishes : Phase → Phase → Result Status Fault → Type 0
Finishes old new (Ok status.Done) = FinishedAs old new
Finishes old new (Ok status.Misused) = (new ≡ old) × IsFinished old
Finishes old new (Ok _) = ⊥
Finishes old new (Err f) = (new ≡ old) × RefusesDocuments old f

abbrev pub FinishCall : Phase → Phase → Status → LastCall → Type 0
FinishCall old new answered said = (came : Result Status Fault) × Finishes old new came × Says [] came answered said

-- ---- the list of places

abbrev pub Listed : Phase → List ℕ → Type 0
Listed (phase.Adding documents) text = ⊥
Listed (phase.Finished schemas) text = text ≡ lines_of (sites schemas.value)

abbrev pub CannotList : Phase → Type 0
CannotList (phase.Adding documents) = ⊤
CannotList (phase.Finished schemas) = ⊥

-- the text has a line for each place
abbrev pub Lists : Phase → List ℕ → Result Status Fault → Type 0
Lists state text (Ok status.Done) = Listed state text
Lists state text (Ok status.Misused) = CannotList state × (text ≡ [])
Lists state text (Ok _) = ⊥
Lists state text (Err f) = IsFinished state × (f ≡ fault.Memory)

abbrev pub ListCall : Phase → Status → LastCall → Type 0
ListCall state answered said = (given : List ℕ) × (came : Result Status Fault) × Lists state given came
    × Says given came answered said

-- ---- entries

-- Nothing stands against the URI. One more entry is kept, the place that it names, and its number is how many there
-- were.
abbrev pub Entered : Phase → List ℕ → List ℕ → List ℕ → ℕ → Type 0
Entered (phase.Adding documents) uri old new number = ⊥
Entered (phase.Finished schemas) uri old new number = IsUriText uri × MayGoOn (entry_causes schemas.value uri)
    × ((place : ℕ) × StandsFor schemas.value place (entry_place schemas.value uri) × (new ≡ old ++ place ∷ [])
    × (number ≡ length old))

-- documents aren't finished yet, or the URI isn't such a text
abbrev pub CannotEnter : Phase → List ℕ → Type 0
CannotEnter (phase.Adding documents) uri = ⊤
CannotEnter (phase.Finished schemas) uri = ¬ (IsUriText uri)

abbrev pub RefusesEntry : Phase → List ℕ → Fault → Type 0
RefusesEntry (phase.Adding documents) uri f = ⊥
RefusesEntry (phase.Finished schemas) uri f = IsUriText uri
    × ((e : EntryFault) × IsEntryFault schemas.value uri e × (f ≡ entry_fault_of e))

-- of the entries and the number, before and after
abbrev pub Enters : Phase → List ℕ → List ℕ × ℕ → List ℕ × ℕ → Result Status Fault → Type 0
Enters schemas uri old new (Ok status.Done) = Entered schemas uri old.0 new.0 new.1
Enters schemas uri old new (Ok status.Misused) = (new ≡ old) × CannotEnter schemas uri
Enters schemas uri old new (Ok _) = ⊥
Enters schemas uri old new (Err f) = (new ≡ old) × RefusesEntry schemas uri f

abbrev pub EntryCall : Phase → List ℕ → List ℕ × ℕ → List ℕ × ℕ → Status → LastCall → Type 0
EntryCall schemas uri old new answered said = (came : Result Status Fault) × Enters schemas uri old new came
    × Says [] came answered said

-- ---- limits

-- they are those that are asked for, if these may be set
abbrev pub SetsLimits : ℕ → ℕ → Limits → Limits → Status → Type 0
SetsLimits applications nodes old new status.Done = limits_at_most applications nodes ≡ Some new
SetsLimits applications nodes old new status.Misused = (limits_at_most applications nodes ≡ None) × (new ≡ old)
SetsLimits applications nodes old new _ = ⊥

-- ---- checks

-- what is asked: the place of finished documents that an entry has, and the format of a number
pub record Asked (state : Phase) (entries : List ℕ) (entry number : ℕ) (documents : Documents) (place : ℕ)
    (format : Format) : Type 0 where
  pub finished : finished_in state ≡ Some documents
  pub kept : slice_get entries entry ≡ Some place
  pub there : is_place documents place ≡ true
  pub numbered : slice_get formats number ≡ Some format

-- nothing is asked: documents aren't finished, or there is no such entry of them, or no such format
abbrev pub NotAsked : Phase → List ℕ → ℕ → ℕ → Type 0
NotAsked state entries entry number = (documents : Documents) (place : ℕ) (format : Format)
    → Asked state entries entry number documents place format → ⊥

-- the outcome has this verdict and this text
abbrev pub IsOutput : (Result Output Fault → Type 0) → Bool → List ℕ → Type 0
IsOutput Expected valid text = (output : Output) × Expected (Ok output) × (output.valid ≡ valid) × (text ≡ output.text)

abbrev pub Judges : (Result Output Fault → Type 0) → List ℕ → Result Status Fault → Type 0
Judges Expected text (Ok status.Done) = IsOutput Expected true text
Judges Expected text (Ok status.Invalid) = IsOutput Expected false text
Judges Expected text (Ok _) = ⊥
Judges Expected text (Err f) = IsRefusal f → Expected (Err f)

-- the outcome at the place within the limits, or nothing is asked
abbrev pub Checks : Phase → Limits → List ℕ → ℕ → List ℕ → ℕ → List ℕ → Result Status Fault → Type 0
Checks state limits entries entry instance number text (Ok status.Misused) = NotAsked state entries entry number
    × (text ≡ [])
Checks state limits entries entry instance number text came =
    (documents : Documents) × (place : ℕ) × (format : Format) × Asked state entries entry number documents place format
    × Judges (InstanceOutcomeWithin limits documents (place_at documents place) format instance) text came

abbrev pub CheckCall : Phase → Limits → List ℕ → ℕ → List ℕ → ℕ → Status → LastCall → Type 0
CheckCall state limits entries entry instance number answered said =
    (given : List ℕ) × (came : Result Status Fault) × Checks state limits entries entry instance number given came
    × Says given came answered said
