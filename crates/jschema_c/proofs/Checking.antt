-- A check of a ready handle is a run.
use Rattle.std.proofs.Common.{◌≡◌, ℕ, List, slice_get, Some, Result, Ok, Err, Bool, true, false}
use Rattle.std.proofs.Common.{refl, sym, ap, ◌∙◌, subst}
use Rattle.js_bundle.specs.Document as bundle
use Rattle.js_bundle.specs.Schemas.{is_place, place_at}
use Rattle.js_tree.specs.Form.{formats}
use Rattle.js_tree.specs.declared.formats.Format.{Format}
use Rattle.js_output.specs.Documents.{DocumentTexts}
use Rattle.js_output.specs.Entry.{entry_causes, entry_place}
use Rattle.js_output.specs.Outcome.{Output, InstanceOutcomeWithin, OutcomeWithin}
use Rattle.js_output.specs.declared.fault.Fault.{Fault}
use Rattle.js_output.proofs.Answering.{after-clear}
use Rattle.js_output.proofs.FinishedSchemas.{finished_are, outcome_over}
use Rattle.js_output.proofs.Sites.{stands_named, stands_there}
use Rattle.jschema_c.specs.declared.last_call.LastCall.{LastCall}
use Rattle.jschema_c.specs.declared.session.Session.{Session}
use Rattle.jschema_c.specs.declared.status.Status.{Status}
use Rattle.jschema_c.specs.declared.status.Status.TheVariants as status
use Rattle.jschema_c.specs.Exports.{SessionChecks}
use Rattle.jschema_c.specs.Run.{IsReady, TellsOutcome}
use Rattle.jschema_c.specs.LastCall.{Says}
use Rattle.jschema_c.specs.Session.{Asked, Checks, IsOutput, Judges}

some_is : {A : Type 0} (a b : A) → Some a ≡ Some b → a ≡ b
some_is a b e = cc

module _ (documents : DocumentTexts) (uri : List ℕ) (number : ℕ) (s : Session) (ready : IsReady documents uri number s)
    (instance : List ℕ) (format : Format) (format_number : ℕ)
    (numbered : slice_get formats format_number ≡ Some format) where
  abbrev Expected : Result Output Fault → Type 0
  Expected = OutcomeWithin s.limits documents uri format instance

  -- what comes at a place
  abbrev At : bundle.Documents → ℕ → Format → Result Output Fault → Type 0
  At schemas place of = InstanceOutcomeWithin s.limits schemas (place_at schemas place) of instance

  abbrev Here : Result Output Fault → Type 0
  Here = At ready.schemas ready.place format

  -- what comes at the place is what comes of the run
  onto : (outcome : Result Output Fault) → Here outcome → Expected outcome
  onto outcome h =
      let (of, clear) = finished_are documents ready.schemas ready.made in
      let named = stands_named ready.schemas ready.place (entry_place ready.schemas uri) ready.stands in
      outcome_over s.limits documents uri format instance outcome ready.schemas of clear
      (after-clear (entry_causes ready.schemas uri)
      (InstanceOutcomeWithin s.limits ready.schemas (entry_place ready.schemas uri) format instance) ready.clear outcome
      (subst (λ p. InstanceOutcomeWithin s.limits ready.schemas p format instance outcome) named h))

  asked : Asked s.phase s.entries.items number format_number ready.schemas ready.place format
  asked = record {
    finished = ready.held;
    kept = ready.kept;
    there = stands_there ready.schemas ready.place (entry_place ready.schemas uri) ready.stands;
    numbered = numbered;
  }

  output : (valid : Bool) (text : List ℕ)
      → IsOutput Here valid text
      → IsOutput Expected valid text
  output valid text (it, comes, verdict, is) = (it, onto (Ok it) comes, verdict, is)

  judged : (given : List ℕ) (came : Result Status Fault) (answered : Status) (said : LastCall)
      → Judges Here given came
      → Says given came answered said → TellsOutcome Expected answered said
  judged given (Ok status.Done) answered said h (is, same, none) =
      subst (λ a. TellsOutcome Expected a said) (sym is)
      (subst (λ t. IsOutput Expected true t) (sym same) (output true given h), none)
  judged given (Ok status.Invalid) answered said h (is, same, none) =
      subst (λ a. TellsOutcome Expected a said) (sym is)
      (subst (λ t. IsOutput Expected false t) (sym same) (output false given h), none)
  judged given (Ok status.Misused) answered said h says = absurd h
  judged given (Ok status.Refused) answered said h says = absurd h
  judged given (Ok status.Failed) answered said h says = absurd h
  judged given (Err f) status.Done said h says = absurd says
  judged given (Err f) status.Invalid said h says = absurd says
  judged given (Err f) status.Misused said h says = absurd says
  judged given (Err f) status.Refused said h says = (f, onto (Err f) (h says.refusal), says)
  judged given (Err f) status.Failed said h says = says

  -- what was asked is what is ready
  there : (given : List ℕ) (came : Result Status Fault) (schemas : bundle.Documents) (place : ℕ) (other : Format)
      → Asked s.phase s.entries.items number format_number schemas place other
      → Judges (At schemas place other) given came
      → Judges Here given came
  there given came schemas place other is h =
      let same = some_is schemas ready.schemas (sym is.finished ∙ ready.held) in
      let at = some_is place ready.place (sym is.kept ∙ ready.kept) in
      subst (λ f. Judges (At ready.schemas ready.place f) given came)
      (some_is other format (sym is.numbered ∙ numbered))
      (subst (λ p. Judges (At ready.schemas p other) given came) at
      (subst (λ d. Judges (At d place other) given came) same h))

  checked : (given : List ℕ) (came : Result Status Fault) (answered : Status) (said : LastCall)
      → Checks s.phase s.limits s.entries.items number instance format_number given came
      → Says given came answered said → TellsOutcome Expected answered said
  checked given (Ok status.Misused) answered said (none, empty) says =
      absurd (none ready.schemas ready.place format asked)
  checked given (Ok status.Done) answered said (schemas, place, other, is, h) says =
      judged given (Ok status.Done) answered said (there given (Ok status.Done) schemas place other is h) says
  checked given (Ok status.Invalid) answered said (schemas, place, other, is, h) says =
      judged given (Ok status.Invalid) answered said (there given (Ok status.Invalid) schemas place other is h) says
  checked given (Ok status.Refused) answered said (schemas, place, other, is, h) says = absurd h
  checked given (Ok status.Failed) answered said (schemas, place, other, is, h) says = absurd h
  checked given (Err f) answered said (schemas, place, other, is, h) says =
      judged given (Err f) answered said (there given (Err f) schemas place other is h) says

  pub check_tells : (after : Session) (answered : Status)
      → SessionChecks number instance format_number s after answered
      → TellsOutcome Expected answered after.said
  check_tells after answered ((given, came, h, says), stays) = checked given came answered after.said h says
