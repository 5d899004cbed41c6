-- What comes of an instance over finished schemas is an outcome of a run over their documents.
use Rattle.std.proofs.Common.{◌≡◌, ℕ, ◌+◌, List, [], ◌∷◌, ◌++◌, ◌⊎◌, length, Result, refl, ◌∙◌, sym, subst}
use Rattle.std.proofs.lemmas.List.{append-nil}
use Rattle.js_bundle.specs.Document as bundle
use Rattle.js_eval.specs.declared.evaluation.limits.Limits.{Limits}
use Rattle.js_tree.specs.declared.formats.Format.{Format}
use Rattle.js_output.specs.Cause.{MayGoOn}
use Rattle.js_output.specs.Documents.{DocumentTexts, bundle_of, adding_causes, bundle_causes, documents_causes}
use Rattle.js_output.specs.Entry.{entry_causes, entry_place}
use Rattle.js_output.specs.Finished.{AreAddedInTurn, AreFinished}
use Rattle.js_output.specs.Outcome.{Output, InstanceOutcomeWithin, FinishedOutcomeWithin, OutcomeWithin}
use Rattle.js_output.specs.Report.{After, StopsBy}
use Rattle.js_output.specs.declared.fault.Fault.{Fault}
use Rattle.js_output.proofs.Answering.{after-apart, after-together, after-onto, after-or}
use Rattle.js_output.proofs.BundleCauses.{added_clear, held_more, taken_more, finish_clear}
use Rattle.js_output.proofs.CauseLists.{clear-append}

-- ---- the outcome, in two parts: the documents', and what comes over their schemas

module _ (limits : Limits) (documents : DocumentTexts) (entry : List ℕ) (format : Format) (instance : List ℕ)
    (outcome : Result Output Fault) where
  pub outcome_apart : OutcomeWithin limits documents entry format instance outcome
      → After (documents_causes documents) (FinishedOutcomeWithin limits (bundle_of documents) entry format instance)
      outcome
  outcome_apart = after-apart (documents_causes documents) (entry_causes (bundle_of documents) entry)
      (InstanceOutcomeWithin limits (bundle_of documents) (entry_place (bundle_of documents) entry) format instance)
      outcome

  pub outcome_together : After (documents_causes documents)
      (FinishedOutcomeWithin limits (bundle_of documents) entry format
      instance) outcome → OutcomeWithin limits documents entry format instance outcome
  outcome_together = after-together (documents_causes documents) (entry_causes (bundle_of documents) entry)
      (InstanceOutcomeWithin limits (bundle_of documents) (entry_place (bundle_of documents) entry) format instance)
      outcome

  -- nothing stands against the documents
  pub outcome_over : (schemas : bundle.Documents) → schemas ≡ bundle_of documents → MayGoOn (documents_causes documents)
      → FinishedOutcomeWithin limits schemas entry format instance outcome
      → OutcomeWithin limits documents entry format instance outcome
  outcome_over schemas of clear h =
      after-onto (documents_causes documents) (entry_causes (bundle_of documents) entry)
      (InstanceOutcomeWithin limits (bundle_of documents) (entry_place (bundle_of documents) entry) format instance)
      clear
      outcome (subst (λ d. FinishedOutcomeWithin limits d entry format instance outcome) of h)

  -- the other way: it is a refusal of the documents, or comes over their schemas
  pub outcome_under : (schemas : bundle.Documents) → schemas ≡ bundle_of documents
      → OutcomeWithin limits documents entry format instance outcome
      → StopsBy (documents_causes documents) outcome ⊎ FinishedOutcomeWithin limits schemas entry format instance
      outcome
  outcome_under schemas of h =
      subst (λ d. StopsBy (documents_causes documents) outcome ⊎ FinishedOutcomeWithin limits d entry format instance
      outcome) (sym of) (after-or (documents_causes documents) (FinishedOutcomeWithin limits (bundle_of documents) entry
      format instance) outcome (outcome_apart h))

-- ---- documents that were added and finished

are_added : (before : bundle.Documents) (n : ℕ) (documents : DocumentTexts) (all : bundle.Documents) → length before ≡ n
    → AreAddedInTurn before documents all
    → (all ≡ before ++ bundle_of documents) × MayGoOn (adding_causes n documents)
are_added before n [] all many is = (is ∙ sym (append-nil before), tt)
are_added before n (d ∷ ds) all many (more, added, later) =
    let (is, clear) = are_added more (n + 1) ds all (held_more before more d.0 d.1 n added many) later in (
      is ∙ taken_more before more d.0 d.1 ds (before ++ bundle_of (d ∷ ds)) added refl,
      clear-append _ (adding_causes (n + 1) ds) (added_clear before more d.0 d.1 n added many) clear,
    )

pub finished_are : (documents : DocumentTexts) (schemas : bundle.Documents) → AreFinished documents schemas
    → (schemas ≡ bundle_of documents) × MayGoOn (documents_causes documents)
finished_are documents schemas is =
    let (of, clear) = are_added [] 0 documents schemas refl is.added in (
      of,
      clear-append (adding_causes 0 documents) (bundle_causes (bundle_of documents)) clear
          (subst (λ d. MayGoOn (bundle_causes d)) of (finish_clear schemas is.clear)),
    )
