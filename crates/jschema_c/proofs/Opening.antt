-- How a new handle becomes ready.
use Rattle.std.proofs.Common.{◌≡◌, ℕ, ◌<◌, ◌+◌, List, [], ◌∷◌, ◌++◌, length, slice_get, Some, Result, Ok, Err, true}
use Rattle.std.proofs.Common.{refl, sym, ap, ◌∙◌, subst, arith, length-append}
use Rattle.std.proofs.Math.Seq.{get_or-append_seam}
use Rattle.std.proofs.lemmas.List.{get_or_append_left}
use Rattle.std.proofs.lemmas.Option.{slice_get_read, slice_get_within, get_or_from_slice_get}
use Rattle.js_bundle.specs.Adding.{IsAdded}
use Rattle.js_bundle.specs.Candidate.{IsClear}
use Rattle.js_bundle.specs.Document as bundle
use Rattle.js_bundle.specs.Refusals.{candidates}
use Rattle.js_bundle.specs.Schemas.{StandsFor}
use Rattle.js_eval.specs.Result.{standard_limits}
use Rattle.js_output.specs.Cause.{MayGoOn}
use Rattle.js_output.specs.Documents.{DocumentTexts}
use Rattle.js_output.specs.Entry.{entry_causes, entry_place}
use Rattle.js_output.specs.Finished.{AreAddedInTurn}
use Rattle.js_output.specs.declared.fault.Fault.{Fault}
use Rattle.jschema_c.specs.declared.last_call.LastCall.{LastCall}
use Rattle.jschema_c.specs.declared.session.Phase.{Phase}
use Rattle.jschema_c.specs.declared.session.Phase.TheVariants as phase
use Rattle.jschema_c.specs.declared.session.Session.{Session}
use Rattle.jschema_c.specs.declared.status.Status.{Status}
use Rattle.jschema_c.specs.declared.status.Status.TheVariants as status
use Rattle.jschema_c.specs.Run.{AddsInTurn, IsOpenedSession, IsReady}
use Rattle.jschema_c.specs.Session.{finished_in, AddCall, AddedTo, FinishCall, FinishedAs, EntryCall, Entered}

-- ---- entries that are kept

pub kept_more : (xs ys : List ℕ) (n x : ℕ) → slice_get xs n ≡ Some x → slice_get (xs ++ ys) n ≡ Some x
kept_more xs ys n x h =
    let within : n < length xs = slice_get_within xs n x h in
    let longer : n < length (xs ++ ys) = omega (arith, within, length-append xs ys) in
    slice_get_read (xs ++ ys) (length (xs ++ ys)) n x refl longer
    (sym (get_or_append_left xs ys x n within ∙ get_or_from_slice_get xs n x x h))

kept_last : (xs : List ℕ) (x : ℕ) → slice_get (xs ++ x ∷ []) (length xs) ≡ Some x
kept_last xs x =
    let within : length xs < length (xs ++ x ∷ []) = omega (arith, length-append xs (x ∷ [])) in
    slice_get_read (xs ++ x ∷ []) (length (xs ++ x ∷ [])) (length xs) x refl within
    (sym (get_or-append_seam xs x [] x))

-- ---- calls that are done

added_by : (old new : Phase) (uri text : List ℕ) (said : LastCall) → AddCall uri text old new status.Done said
    → AddedTo old uri text new
added_by old new uri text said (Ok status.Done, h, says) = h
added_by old new uri text said (Ok status.Invalid, h, says) = absurd h
added_by old new uri text said (Ok status.Misused, h, says) = absurd (cc (says.0))
added_by old new uri text said (Ok status.Refused, h, says) = absurd h
added_by old new uri text said (Ok status.Failed, h, says) = absurd h
added_by old new uri text said (Err f, h, says) = absurd says

finished_by : (old new : Phase) (said : LastCall) → FinishCall old new status.Done said → FinishedAs old new
finished_by old new said (Ok status.Done, h, says) = h
finished_by old new said (Ok status.Invalid, h, says) = absurd h
finished_by old new said (Ok status.Misused, h, says) = absurd (cc (says.0))
finished_by old new said (Ok status.Refused, h, says) = absurd h
finished_by old new said (Ok status.Failed, h, says) = absurd h
finished_by old new said (Err f, h, says) = absurd says

entered_by : (state : Phase) (uri : List ℕ) (old new : List ℕ × ℕ) (said : LastCall)
    → EntryCall state uri old new status.Done said → Entered state uri old.0 new.0 new.1
entered_by state uri old new said (Ok status.Done, h, says) = h
entered_by state uri old new said (Ok status.Invalid, h, says) = absurd h
entered_by state uri old new said (Ok status.Misused, h, says) = absurd (cc (says.0))
entered_by state uri old new said (Ok status.Refused, h, says) = absurd h
entered_by state uri old new said (Ok status.Failed, h, says) = absurd h
entered_by state uri old new said (Err f, h, says) = absurd says

-- ---- documents that were added

one_more : (before : bundle.Documents) (old new : Phase) (uri text : List ℕ) → old ≡ phase.Adding before
    → AddedTo old uri text new
    → (more : bundle.Documents) × (new ≡ phase.Adding more) × IsAdded before uri text more
one_more before (phase.Adding there) (phase.Adding more) uri text e (utf8, fits, added) =
    let h = subst (λ p. AddedTo p uri text (phase.Adding more)) e (utf8, fits, added) in (more, refl, h.2)
one_more before (phase.Adding there) (phase.Finished schemas) uri text e h = absurd h
one_more before (phase.Finished schemas) new uri text e h = absurd h

all_added : (before : bundle.Documents) (documents : DocumentTexts) (s full : Session)
    → s.phase ≡ phase.Adding before → AddsInTurn s documents full
    → (all : bundle.Documents) × (full.phase ≡ phase.Adding all) × AreAddedInTurn before documents all
all_added before [] s full e same = (before, ap (λ x. x.phase) same ∙ e, refl)
all_added before (d ∷ ds) s full e (more, call, rest) =
    let (next, at, added) = one_more before s.phase more.phase d.0 d.1 e
    (added_by s.phase more.phase d.0 d.1 more.said call.0) in
    let (all, there, later) = all_added next ds more full at rest in (all, there, (next, added, later))

all_finished : (documents : bundle.Documents) (old new : Phase) → old ≡ phase.Adding documents → FinishedAs old new
    → (finished_in new ≡ Some documents) × IsClear (candidates documents)
all_finished documents old new e h = let is = subst (λ p. FinishedAs p new) e h in (is.0, is.1)

-- ---- the entry

-- what was looked up
record IsFound (schemas : bundle.Documents) (uri old new : List ℕ) (number : ℕ) : Type 0 where
  place : ℕ
  clear : MayGoOn (entry_causes schemas uri)
  stands : StandsFor schemas place (entry_place schemas uri)
  kept : slice_get new number ≡ Some place

some_is : (a b : bundle.Documents) → Some a ≡ Some b → a ≡ b
some_is a b e = cc

found : (schemas : bundle.Documents) (state : Phase) (uri old new : List ℕ) (number : ℕ)
    → finished_in state ≡ Some schemas → Entered state uri old new number → IsFound schemas uri old new number
found schemas (phase.Adding documents) uri old new number e h = absurd h
found schemas (phase.Finished there) uri old new number e (utf8, clear, (place, stands, grows, at)) =
    let same = some_is there.value schemas e in record {
      place = place;
      clear = subst (λ s. MayGoOn (entry_causes s uri)) same clear;
      stands = subst (λ s. StandsFor s place (entry_place s uri)) same stands;
      kept = subst (λ n. slice_get new n ≡ Some place) (sym at)
          (subst (λ l. slice_get l (length old) ≡ Some place) (sym grows) (kept_last old place));
    }

pub opened : (documents : DocumentTexts) (uri : List ℕ) (number : ℕ) (s : Session)
    → IsOpenedSession documents uri number s
    → IsReady documents uri number s
opened documents uri number s is =
    let (all, adding, added) = all_added [] documents is.empty is.full is.is_new.none is.adds in
    let (held, clear) = all_finished all is.full.phase is.finished.phase adding
    (finished_by is.full.phase is.finished.phase is.finished.said is.finishes.0) in
    let entry = found all is.finished.phase uri is.finished.entries.items s.entries.items number held
    (entered_by is.finished.phase uri (is.finished.entries.items, is.earlier) (s.entries.items, number) s.said
    is.enters.0) in record {
      schemas = all;
      place = entry.place;
      held = ap finished_in is.enters.1.0 ∙ held;
      made = record { added = added; clear = clear };
      clear = entry.clear;
      stands = entry.stands;
      kept = entry.kept;
    }

same_limits : (documents : DocumentTexts) (s full : Session) → AddsInTurn s documents full → full.limits ≡ s.limits
same_limits [] s full same = ap (λ x. x.limits) same
same_limits (d ∷ ds) s full (more, call, rest) = same_limits ds more full rest ∙ call.1.limits

pub opened_limits : (documents : DocumentTexts) (uri : List ℕ) (number : ℕ) (s : Session)
    → IsOpenedSession documents uri number s → s.limits ≡ standard_limits
opened_limits documents uri number s is =
    is.enters.1.1 ∙ is.finishes.1.limits ∙ same_limits documents is.empty is.full is.adds ∙ is.is_new.limits
