-- A ready handle stays so.
use Rattle.std.proofs.Common.{◌≡◌, ℕ, List, [], ◌∷◌, ◌++◌, slice_get, Some, Result, Ok, Err, refl, sym, ap, ◌∙◌, subst}
use Rattle.js_output.specs.Documents.{DocumentTexts}
use Rattle.js_output.specs.declared.fault.Fault.{Fault}
use Rattle.jschema_c.specs.declared.last_call.LastCall.{LastCall}
use Rattle.jschema_c.specs.declared.session.Phase.{Phase}
use Rattle.jschema_c.specs.declared.session.Phase.TheVariants as phase
use Rattle.jschema_c.specs.declared.session.Session.{Session}
use Rattle.jschema_c.specs.declared.status.Status.{Status}
use Rattle.jschema_c.specs.declared.status.Status.TheVariants as status
use Rattle.jschema_c.specs.Exports.{SessionEnters}
use Rattle.jschema_c.specs.Run.{IsReady}
use Rattle.jschema_c.specs.Session.{finished_in, Entered, EntryCall}
use Rattle.jschema_c.proofs.Opening.{kept_more}

module _ (documents : DocumentTexts) (uri : List ℕ) (number : ℕ) (s : Session)
    (ready : IsReady documents uri number s) where
  -- the same documents are held, and the entry is kept
  pub ready_as : (after : Session) → finished_in after.phase ≡ finished_in s.phase
      → slice_get after.entries.items number ≡ Some ready.place → IsReady documents uri number after
  ready_as after same kept = record {
    schemas = ready.schemas;
    place = ready.place;
    held = same ∙ ready.held;
    made = ready.made;
    clear = ready.clear;
    stands = ready.stands;
    kept = kept;
  }

  pub ready_still : (after : Session) → finished_in after.phase ≡ finished_in s.phase
      → after.entries.items ≡ s.entries.items → IsReady documents uri number after
  ready_still after same entries = ready_as after same
      (subst (λ l. slice_get l number ≡ Some ready.place) (sym entries) ready.kept)

  grown : (state : Phase) (other old new : List ℕ) (n : ℕ) → Entered state other old new n
      → slice_get old number ≡ Some ready.place → slice_get new number ≡ Some ready.place
  grown (phase.Adding held) other old new n h kept = absurd h
  grown (phase.Finished schemas) other old new n (utf8, clear, (place, stands, grows, at)) kept =
      subst (λ l. slice_get l number ≡ Some ready.place) (sym grows)
      (kept_more old (place ∷ []) number ready.place kept)

  kept_by : (state : Phase) (other : List ℕ) (old new : List ℕ × ℕ) (answered : Status) (said : LastCall)
      → EntryCall state other old new answered said → slice_get old.0 number ≡ Some ready.place
      → slice_get new.0 number ≡ Some ready.place
  kept_by state other old new answered said (Ok status.Done, h, says) kept =
      grown state other old.0 new.0 new.1 h kept
  kept_by state other old new answered said (Ok status.Misused, h, says) kept =
      subst (λ p. slice_get p.0 number ≡ Some ready.place) (sym h.0) kept
  kept_by state other old new answered said (Ok status.Invalid, h, says) kept = absurd h
  kept_by state other old new answered said (Ok status.Refused, h, says) kept = absurd h
  kept_by state other old new answered said (Ok status.Failed, h, says) kept = absurd h
  kept_by state other old new answered said (Err f, h, says) kept =
      subst (λ p. slice_get p.0 number ≡ Some ready.place) (sym h.0) kept

  pub ready_entered : (after : Session) (other : List ℕ) (old new : ℕ) (answered : Status)
      → SessionEnters other old new s after answered → IsReady documents uri number after
  ready_entered after other old new answered (call, (same, limits)) = ready_as after (ap finished_in same)
      (kept_by s.phase other (s.entries.items, old) (after.entries.items, new) answered after.said call
      ready.kept)
