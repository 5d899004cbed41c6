-- What an outcome says, in the standard's terms.
use Rattle.std.proofs.Common.{◌≡◌, ℕ, List, length, Option, Some, Result, Ok, Err, Bool}
use Rattle.std.proofs.Common.{MatchBool, ◌⊎◌, inl, inr, refl, sym, ap, ◌∙◌, subst}
use Rattle.std.proofs.lemmas.Bool.{le-ltb}
use Rattle.js_doc.specs.Value.{Value}
use Rattle.js_tree.specs.Form.{form, verbose}
use Rattle.js_tree.specs.OutputUnit.{noted}
use Rattle.js_tree.specs.MergedResult.{merged}
use Rattle.js_tree.specs.Result.{pruned, kept}
use Rattle.js_tree.specs.declared.formats.Format.{Format}
use Rattle.js_tree.specs.declared.formats.Format.TheVariants.{Flag, Basic, Detailed, Merged, Verbose}
use Rattle.js_tree.proofs.KeptTree.{kept_is_reached, kept_is_normal, run-kept, run-normal}
use Rattle.js_tree.proofs.MergedLaws.{merged_is_reached, merged_is_normal, run_of_three-merged, normal_end_of_three}
use Rattle.js_bundle.specs.Document as bundle
use Rattle.js_bundle.specs.Resource.{Site}
use Rattle.js_eval.specs.Result.{ResultTree, IsWithinLimits}
use Rattle.js_eval.specs.declared.evaluation.limits.Limits.{Limits}
use Rattle.js_output.specs.Cause.{Causes, IsFirstFault}
use Rattle.js_output.specs.Device.{Tracked, input_limit, Sends, SendsBeginning}
use Rattle.js_output.specs.Documents.{DocumentTexts, bundle_of}
use Rattle.js_output.specs.Entry.{entry_place}
use Rattle.js_output.specs.Finished.{AreFinished}
use Rattle.js_output.specs.Headline.{Shows, IsAccepted, IsStandardResult, ReportsResult}
use Rattle.js_output.specs.Outcome.{beginning_causes, Output, output_of, ValueOutcome, ReadOutcome, TextOutcome}
use Rattle.js_output.specs.Outcome.{InstanceOutcomeWithin, FinishedOutcomeWithin, OutcomeWithin, output_report}
use Rattle.js_output.specs.Report.{Report, Answers, Reports}
use Rattle.js_output.proofs.Answering.{reports-map}
use Rattle.js_output.proofs.FinishedSchemas.{finished_are, outcome_over}
use Rattle.js_output.specs.declared.fault.Fault.{Fault}
use Rattle.js_output.specs.declared.fault.Fault.TheVariants as fault

-- ---- the form shows what the format asks for

shows : (format : Format) (t : ResultTree) → Shows format t (form format t)
shows Flag t = refl
shows Basic t = refl
shows Verbose t = refl
shows Detailed t =
    let p = pruned t in (
      (kept p, (refl, kept_is_reached noted p.below), kept_is_normal noted p.below, refl),
      λ end r n. ap verbose (sym (run-normal noted p end r n)),
      λ met r. (
        kept met,
        (refl, kept_is_reached noted met.below),
        kept_is_normal noted met.below,
        ap verbose
            (sym (run-kept noted p met r)),
      ),
    )
shows Merged t =
    let p = pruned t in (
      (merged p, merged_is_reached p, merged_is_normal p, refl),
      λ end r n. ap verbose (sym (normal_end_of_three p end r n)),
      λ met r.
          (merged met, merged_is_reached met, merged_is_normal met, ap verbose (sym (run_of_three-merged p met r))),
    )

-- ---- of an accepted instance, what comes of its value is the outcome

same_place : (a b : Site) → Some a ≡ Some b → a ≡ b
same_place a b e = cc

module _ (limits : Limits) (documents : DocumentTexts) (entry instance : List ℕ) (format : Format) (place : Site)
    (v : Value) (is : IsAccepted documents entry instance place v) where
  of_value : (outcome : Result Output Fault)
      → InstanceOutcomeWithin limits (bundle_of documents) (entry_place (bundle_of documents) entry) format instance
      outcome
      → ValueOutcome limits (bundle_of documents) (Some place) v format outcome
  of_value outcome h =
      let d = bundle_of documents in
      let a = subst (λ p. InstanceOutcomeWithin limits d p format instance outcome) is.names h in
      let b = subst (λ t. MatchBool t (outcome ≡ Err fault.InputTooLarge)
      (TextOutcome limits d (Some place) format instance outcome)) (le-ltb input_limit (length instance) is.fits) a in
      subst (λ r. ReadOutcome limits d (Some place) format r outcome) is.is_read b

  -- the result, and what the format shows of it
  of_output : (output : Output) → OutcomeWithin limits documents entry format instance (Ok output)
      → (t : ResultTree) × IsStandardResult documents place v t × IsWithinLimits limits t
      × (output ≡ output_of format t)
  of_output output (clear, h) =
      let (t, r, stands, e) = of_value (Ok output) h in (
        t,
        subst (λ p. IsStandardResult documents p v t) (sym (same_place place r.place r.is_entry))
            r.is_result,
        stands,
        e,
      )

  of_fault : (f : Fault) → OutcomeWithin limits documents entry format instance (Err f)
      → IsFirstFault (beginning_causes documents entry) f
      ⊎ ((f ≡ fault.TooLarge) × ((t : ResultTree) → IsStandardResult documents place v t → IsWithinLimits limits t → ⊥))
  of_fault f (inl h) = inl h
  of_fault f (inr (clear, h)) =
      let (e, none) = of_value (Err f) h in
      inr (e, λ t r. none t (record { place = place; is_entry = refl; is_result = r }))

  module _ {D : Type 0} (taken : D → Option (List ℕ)) (old new : Tracked D) where
    reported_within : (answer : Result Bool Fault) → Answers output_report (OutcomeWithin limits documents entry format)
        (beginning_causes documents entry) (Some instance) taken old new answer
        → ReportsResult limits taken old new documents entry format place v answer
    reported_within (Ok valid) (bytes, left, (output, h, e, sent)) =
        let (t, r, stands, o) = of_output output
        (subst (λ b. OutcomeWithin limits documents entry format b (Ok output)) (sym left) h) in (
          t,
          r,
          stands,
          sym e ∙ ap (λ p. p.valid) o,
          (form format t, shows format t, subst (λ p. Sends taken old new p.text) o sent),
        )
    reported_within (Err fault.Write) (bytes, left, (output, h, begun)) =
        let (t, r, stands, o) = of_output output
        (subst (λ b. OutcomeWithin limits documents entry format b (Ok output)) (sym left) h) in
        (t, r, stands, (form format t, shows format t, subst (λ p. SendsBeginning taken old new p.text) o begun))
    reported_within (Err fault.Memory) h = tt
    reported_within (Err fault.Read) h = tt
    reported_within (Err f) (bytes, left, h) =
        of_fault f (subst (λ b. OutcomeWithin limits documents entry format b (Err f)) (sym left) h)

pub reported : (limits : Limits) {D : Type 0} (taken : D → Option (List ℕ)) (old new : Tracked D)
    (documents : DocumentTexts)
    (entry instance : List ℕ) (format : Format) (place : Site) (v : Value) (answer : Result Bool Fault)
    → IsAccepted documents entry instance place v → Answers output_report (OutcomeWithin limits documents entry format)
    (beginning_causes documents entry) (Some instance) taken old new answer
    → ReportsResult limits taken old new documents entry format place v answer
reported limits taken old new documents entry instance format place v answer is h =
    reported_within limits documents entry instance format place v is taken old new answer h

-- ---- over finished schemas

-- an outcome that is reported comes of an instance that is known
answers_of : {O A D : Type 0} (report : Report O A) (P : List ℕ → Result O Fault → Type 0) (before : Causes)
    (instance : List ℕ) (taken : D → Option (List ℕ)) (old new : Tracked D) (answer : Result A Fault)
    → Reports report (P instance) taken old new answer → Answers report P before (Some instance) taken old new answer
answers_of report P before instance taken old new (Ok answer) h = (instance, refl, h)
answers_of report P before instance taken old new (Err fault.Memory) h = tt
answers_of report P before instance taken old new (Err fault.Read) h = absurd h
answers_of report P before instance taken old new (Err fault.Write) h = (instance, refl, h)
answers_of report P before instance taken old new (Err f) h = (instance, refl, h)

pub finished_reported : (limits : Limits) {D : Type 0} (taken : D
    → Option (List ℕ)) (old new : Tracked D) (documents : DocumentTexts) (schemas : bundle.Documents)
    (entry instance : List ℕ) (format : Format) (place : Site) (v : Value) (answer : Result Bool Fault)
    → AreFinished documents schemas → IsAccepted documents entry instance place v
    → Reports output_report (FinishedOutcomeWithin limits schemas entry format instance) taken old new answer
    → ReportsResult limits taken old new documents entry format place v answer
finished_reported limits taken old new documents schemas entry instance format place v answer finished is h =
    let (of, clear) = finished_are documents schemas finished in
    reported limits taken old new documents entry instance format place v answer is
    (answers_of output_report (OutcomeWithin limits documents entry format) (beginning_causes documents entry)
    instance taken old new answer
    (reports-map output_report taken old new (FinishedOutcomeWithin limits schemas entry format instance)
    (OutcomeWithin limits documents entry
    format instance) answer (λ outcome. outcome_over limits documents entry format instance outcome schemas of clear)
    h))
