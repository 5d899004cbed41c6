-- The outcome of a run: the first of its causes of a fault that applies; else the verdict of the standard's result,
-- and the text of the form that was asked for.
use Rattle.std.specs.Prelude.{◌≡◌, ◌≤◌, ℕ, List, [], ◌∷◌, ◌++◌, Option, Some, None, Result, Ok, Err, IfErr}
use Rattle.std.specs.Prelude.{IsErrOf, Bool, true, ◌==◌, ◌+◌, codes, take, drop, position, ⊤}
use Rattle.js_doc.specs.Compact.{compact}
use Rattle.js_doc.specs.Value.{Value}
use Rattle.js_doc.specs.declared.reading.ReadFault.{ReadFault}
use Rattle.js_tree.specs.Form.{form}
use Rattle.js_tree.specs.declared.formats.Format.{Format}
use Rattle.js_tree.specs.declared.formats.Format.TheVariants.{Flag}
use Rattle.js_bundle.specs.Document as bundle
use Rattle.js_bundle.specs.Resource.{Site}
use Rattle.js_eval.specs.Bundle.{schemas_of}
use Rattle.js_eval.specs.Location.{at_root}
use Rattle.js_eval.specs.Result.{ResultTree, IsResult, IsWithinLimits, standard_limits}
use Rattle.js_eval.specs.declared.evaluation.limits.Limits.{Limits}
use Rattle.js_eval.specs.declared.evaluation.fault.WalkFault.{WalkFault}
use Rattle.js_eval.specs.declared.evaluation.fault.WalkFault.TheVariants as walk_fault
use Rattle.js_output.specs.Cause.{Causes}
use Rattle.js_output.specs.Device.{Tracked, input_limit}
use Rattle.js_output.specs.Documents.{DocumentTexts, documents_causes, bundle_of}
use Rattle.js_output.specs.Entry.{entry_causes, entry_place}
use Rattle.js_output.specs.Reading.{reading}
use Rattle.js_output.specs.Report.{Report, After, OfInput}
use Rattle.js_output.specs.declared.fault.Fault.{Fault}
use Rattle.js_output.specs.declared.fault.Fault.TheVariants as fault

-- ---- the causes before the instance is read: of the documents, and of the entry

abbrev pub beginning_causes : DocumentTexts → List ℕ → Causes
beginning_causes documents entry = documents_causes documents ++ entry_causes (bundle_of documents) entry

-- the faults that they make
abbrev pub IsEarly : Fault → Type 0
IsEarly (fault.Refused r) = ⊤
IsEarly (fault.Entry e) = ⊤
IsEarly _ = ⊥

abbrev pub IsEarlyOrMemory : Fault → Type 0
IsEarlyOrMemory fault.Memory = ⊤
IsEarlyOrMemory f = IsEarly f

abbrev pub IsEntryOrMemory : Fault → Type 0
IsEntryOrMemory fault.Memory = ⊤
IsEntryOrMemory (fault.Entry e) = ⊤
IsEntryOrMemory _ = ⊥

-- ---- what comes of a value, which is judged at a place of finished documents

-- whether the instance is valid, and the text that says so
pub record Output : Type 0 where
  pub valid : Bool
  pub text : List ℕ

-- what a format says of a result: its root's verdict, and the compact text of its form (JSON Schema Core, section
-- 12.4), with a line feed
abbrev pub output_of : Format → ResultTree → Output
output_of format t = record { valid = t.root.valid; text = compact (form format t) ++ 10 ∷ [] }

module _ (documents : bundle.Documents) (entry : Option Site) (v : Value) where
  -- t is the standard's result (section 12.4.4): of judging v at the entry, to which no place led
  pub record IsResultOf (t : ResultTree) : Type 0 where
    pub place : Site
    pub is_entry : entry ≡ Some place
    pub is_result : IsResult (schemas_of documents) [] place at_root v t

module _ (limits : Limits) (documents : bundle.Documents) (entry : Option Site) (v : Value) where
  -- no result is within the limits
  abbrev pub NoResultStands : Type 0
  NoResultStands = (t : ResultTree) → IsResultOf documents entry v t → IsWithinLimits limits t → ⊥

  -- what the format says of the result within the limits; `TooLarge` if there is none
  abbrev pub ValueOutcome : Format → Result Output Fault → Type 0
  ValueOutcome format (Ok output) = (t : ResultTree) × IsResultOf documents entry v t × IsWithinLimits limits t
      × (output ≡ output_of format t)
  ValueOutcome format (Err f) = (f ≡ fault.TooLarge) × NoResultStands

-- ---- what comes of an instance

module _ (limits : Limits) (documents : bundle.Documents) (entry : Option Site) (format : Format) where
  abbrev pub ReadOutcome : Result Value ReadFault → Result Output Fault → Type 0
  ReadOutcome (Ok v) answer = ValueOutcome limits documents entry v format answer
  ReadOutcome (Err e) answer = answer ≡ Err (fault.Instance e)

  -- of its text
  abbrev pub TextOutcome : List ℕ → Result Output Fault → Type 0
  TextOutcome text = ReadOutcome (reading text)

  -- of its bytes
  abbrev pub InstanceOutcomeWithin : List ℕ → Result Output Fault → Type 0
  InstanceOutcomeWithin bytes = OfInput bytes (TextOutcome bytes)

-- ---- the outcome

module _ (limits : Limits) where
  abbrev pub OutcomeWithin : DocumentTexts → List ℕ → Format → List ℕ → Result Output Fault → Type 0
  OutcomeWithin documents entry format instance =
      After (beginning_causes documents entry)
      (InstanceOutcomeWithin limits (bundle_of documents) (entry_place (bundle_of documents) entry) format instance)

  -- over finished schemas: what comes of the entry, and then of the instance
  abbrev pub FinishedOutcomeWithin : bundle.Documents → List ℕ → Format → List ℕ → Result Output Fault → Type 0
  FinishedOutcomeWithin schemas entry format instance =
      After (entry_causes schemas entry)
      (InstanceOutcomeWithin limits schemas (entry_place schemas entry) format instance)

-- with the standard limits

abbrev pub InstanceOutcome : bundle.Documents → Option Site → Format → List ℕ → Result Output Fault → Type 0
InstanceOutcome = InstanceOutcomeWithin standard_limits

abbrev pub Outcome : DocumentTexts → List ℕ → Format → List ℕ → Result Output Fault → Type 0
Outcome = OutcomeWithin standard_limits

abbrev pub FinishedOutcome : bundle.Documents → List ℕ → Format → List ℕ → Result Output Fault → Type 0
FinishedOutcome = FinishedOutcomeWithin standard_limits

-- ---- the outcome of a pair: a document, a line feed, and the instance

abbrev pub first_line_feed : List ℕ → Option ℕ
first_line_feed bytes = position (λ b. b == 10) bytes

abbrev pub text_before : Option ℕ → List ℕ → List ℕ
text_before None bytes = bytes
text_before (Some at) bytes = take at bytes

abbrev pub text_after : Option ℕ → List ℕ → List ℕ
text_after None bytes = []
text_after (Some at) bytes = drop (at + 1) bytes

-- the URI of a pair's document
abbrev pub pair_uri : List ℕ
pair_uri = codes "https://a.example/s"

abbrev pub OutcomeOfTexts : List ℕ → List ℕ → Result Output Fault → Type 0
OutcomeOfTexts document instance = Outcome ((pair_uri, document) ∷ []) pair_uri Flag instance

abbrev pub PairOutcome : List ℕ → Result Output Fault → Type 0
PairOutcome bytes =
    let at = first_line_feed bytes in
    OfInput bytes (OutcomeOfTexts (text_before at bytes) (text_after at bytes))

-- ---- what is returned

-- the verdict; the output's text is written
abbrev pub output_report : Report Output Bool
output_report = record { answer = λ output. output.valid; text = λ output. output.text }

-- if the source has failed: its fault, unless another came before it was needed, or memory failed
abbrev pub IsReadOrEarly : {A : Type 0} → Result A Fault → Type 0
IsReadOrEarly (Err fault.Memory) = ⊤
IsReadOrEarly (Err fault.Read) = ⊤
IsReadOrEarly (Err f) = IsEarly f
IsReadOrEarly (Ok valid) = ⊥

-- what becomes of a source that is read whole, unless a fault comes before
pub record UsesSource {A D : Type 0} (old new : Tracked D) (result : Result A Fault) : Type 0 where
  pub unread : IfErr result (λ e. IsEarly e → new ≡ old)
  pub read : IsErrOf result fault.Read → new.failed ≡ true
  pub failed : new.failed ≡ true → IsReadOrEarly result
  pub reads : new.calls ≤ old.calls + (input_limit + 1)
  pub stays : old.failed ≡ true → new ≡ old

-- the faults from the instance's text on, or lack of memory
abbrev pub IsLateOrMemory : Fault → Type 0
IsLateOrMemory fault.Memory = ⊤
IsLateOrMemory (fault.Instance e) = ⊤
IsLateOrMemory fault.TooLarge = ⊤
IsLateOrMemory fault.Write = ⊤
IsLateOrMemory _ = ⊥

-- the faults from the instance's bytes on, or lack of memory
abbrev pub IsInstanceFault : Fault → Type 0
IsInstanceFault fault.InputTooLarge = ⊤
IsInstanceFault f = IsLateOrMemory f

-- those, and the refusal of an entry
abbrev pub IsFinishedFault : Fault → Type 0
IsFinishedFault (fault.Entry e) = ⊤
IsFinishedFault f = IsInstanceFault f

-- ---- words for the parts

-- why there is no result: none is within the limits, or lack of memory
abbrev pub IsWalkFault : Limits → bundle.Documents → Option Site → Value → Fault → Type 0
IsWalkFault limits documents entry v fault.Memory = ⊤
IsWalkFault limits documents entry v fault.TooLarge = NoResultStands limits documents entry v
IsWalkFault limits documents entry v _ = ⊥

abbrev pub walk_fault_of : WalkFault → Fault
walk_fault_of walk_fault.Memory = fault.Memory
walk_fault_of walk_fault.TooLarge = fault.TooLarge
