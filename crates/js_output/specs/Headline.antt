-- The headline: for every accepted bundle and entry, and each instance text that is read and isn't too large, the
-- bytes written are the requested form of the standard's result; or `TooLarge` is returned, if and only if none is
-- within the limits. It follows from the clause `answer` of `run` alone; over finished schemas, from that of
-- `run_finished`.
use Rattle.std.specs.Prelude.{◌≡◌, ◌≤◌, ℕ, List, [], ◌∷◌, ◌++◌, length, Option, Some, Result, Ok, Err, Bool, ◌⊎◌, ⊤}
use Rattle.js_doc.specs.Compact.{compact}
use Rattle.js_doc.specs.Value.{Value}
use Rattle.js_tree.specs.Form.{flag, unit_list, verbose}
use Rattle.js_tree.specs.MergedResult.{RunOfThree, NormalOfThree}
use Rattle.js_tree.specs.Result.{Run, Normal, pruned}
use Rattle.js_tree.specs.declared.formats.Format.{Format}
use Rattle.js_tree.specs.declared.formats.Format.TheVariants.{Flag, Basic, Detailed, Merged, Verbose}
use Rattle.js_bundle.specs.Document as bundle
use Rattle.js_bundle.specs.Resource.{Site}
use Rattle.js_eval.specs.Bundle.{schemas_of}
use Rattle.js_eval.specs.Location.{at_root}
use Rattle.js_eval.specs.Result.{ResultTree, IsResult, IsWithinLimits}
use Rattle.js_eval.specs.declared.evaluation.limits.Limits.{Limits}
use Rattle.js_output.specs.Cause.{MayGoOn, IsFirstFault}
use Rattle.js_output.specs.Device.{Tracked, input_limit, Sends, SendsBeginning}
use Rattle.js_output.specs.Documents.{DocumentTexts, bundle_of}
use Rattle.js_output.specs.Entry.{entry_place}
use Rattle.js_output.specs.Finished.{AreFinished}
use Rattle.js_output.specs.Outcome.{beginning_causes, FinishedOutcomeWithin, OutcomeWithin, output_report}
use Rattle.js_output.specs.Report.{Answers, Reports}
use Rattle.js_output.specs.Reading.{reading}
use Rattle.js_output.specs.declared.fault.Fault.{Fault}
use Rattle.js_output.specs.declared.fault.Fault.TheVariants as fault

-- What a format shows of a result (JSON Schema Core, section 12.4): flag its verdict, basic the units with a note of
-- the pruned tree, verbose the whole tree. Detailed shows the one tree in which every run of the two condensing rules
-- from the pruned tree ends: a run leads to it, each run that can't be continued ends in it, and each run can be
-- continued to it. Merged, this project's own, shows the one in which every run of these and of the third rule ends:
-- a node goes, with all below it, where an earlier sibling is equal once keyword locations are ignored.
abbrev pub Shows : Format → ResultTree → Value → Type 0
Shows Flag t shown = shown ≡ flag t.root.valid
Shows Basic t shown = shown ≡ unit_list (pruned t)
Shows Detailed t shown =
    ((end : ResultTree) × Run (pruned t) end × Normal end × (shown ≡ verbose end))
    × ((end : ResultTree) → Run (pruned t) end → Normal end → shown ≡ verbose end)
    × ((met : ResultTree) → Run (pruned t) met → (end : ResultTree) × Run met end × Normal end × (shown ≡ verbose end))
Shows Merged t shown =
    ((end : ResultTree) × RunOfThree (pruned t) end × NormalOfThree end × (shown ≡ verbose end))
    × ((end : ResultTree) → RunOfThree (pruned t) end → NormalOfThree end → shown ≡ verbose end)
    × ((met : ResultTree) → RunOfThree (pruned t) met
    → (end : ResultTree) × RunOfThree met end × NormalOfThree end × (shown ≡ verbose end))
Shows Verbose t shown = shown ≡ verbose t

-- The documents and the entry, which is this place, are accepted: at most given causes speak against them, which may
-- be passed over. The instance is the text of this value, and not too large.
pub record IsAccepted (documents : DocumentTexts) (entry instance : List ℕ) (place : Site) (v : Value) : Type 0 where
  pub clear : MayGoOn (beginning_causes documents entry)
  pub names : entry_place (bundle_of documents) entry ≡ Some place
  pub fits : length instance ≤ input_limit
  pub is_read : reading instance ≡ Ok v

-- the standard's result (section 12.4.4), of judging v at the place
abbrev pub IsStandardResult : DocumentTexts → Site → Value → ResultTree → Type 0
IsStandardResult documents place v t = IsResult (schemas_of (bundle_of documents)) [] place at_root v t

module _ (limits : Limits) {D : Type 0} (taken : D → Option (List ℕ)) (old new : Tracked D) where
  -- What is returned and written. A fault of the reader, of the writer, or for lack of memory can come; no other but
  -- `TooLarge`, where none of the causes that may be passed over is taken.
  abbrev pub ReportsResult : DocumentTexts → List ℕ → Format → Site → Value → Result Bool Fault → Type 0
  ReportsResult documents entry format place v (Ok valid) =
      (t : ResultTree) × IsStandardResult documents place v t × IsWithinLimits limits t × (valid ≡ t.root.valid)
      × ((shown : Value) × Shows format t shown × Sends taken old new (compact shown ++ 10 ∷ []))
  ReportsResult documents entry format place v (Err fault.Write) =
      (t : ResultTree) × IsStandardResult documents place v t × IsWithinLimits limits t
      × ((shown : Value) × Shows format t shown × SendsBeginning taken old new (compact shown ++ 10 ∷ []))
  ReportsResult documents entry format place v (Err fault.Memory) = ⊤
  ReportsResult documents entry format place v (Err fault.Read) = ⊤
  ReportsResult documents entry format place v (Err f) =
      IsFirstFault (beginning_causes documents entry) f
      ⊎ ((f ≡ fault.TooLarge) × ((t : ResultTree) → IsStandardResult documents place v t → IsWithinLimits limits t → ⊥))

  abbrev pub Headline : Type 0
  Headline =
      (documents : DocumentTexts) (entry instance : List ℕ) (format : Format) (place : Site) (v : Value)
      (answer : Result Bool Fault)
      → IsAccepted documents entry instance place v
      → Answers output_report (OutcomeWithin limits documents entry format) (beginning_causes documents entry)
      (Some instance) taken old new answer
      → ReportsResult documents entry format place v answer

  -- the same over schemas that are kept
  abbrev pub FinishedHeadline : Type 0
  FinishedHeadline =
      (documents : DocumentTexts) (schemas : bundle.Documents) (entry instance : List ℕ) (format : Format)
      (place : Site) (v : Value) (answer : Result Bool Fault)
      → AreFinished documents schemas
      → IsAccepted documents entry instance place v
      → Reports output_report (FinishedOutcomeWithin limits schemas entry format instance) taken old new answer
      → ReportsResult documents entry format place v answer
