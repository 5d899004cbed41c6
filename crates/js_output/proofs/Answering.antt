-- What a run answers, by where it stops.
use Rattle.std.proofs.Common.{◌≡◌, ℕ, ◌<◌, ◌≤◌, List, [], ◌∷◌, ◌++◌, length, Option, Some, None, Result, Ok, Err, Bool}
use Rattle.std.proofs.Common.{MatchBool, ◌⊎◌, inl, inr, refl, sym, ap, ◌∙◌, subst, arith, length-append}
use Rattle.std.proofs.lemmas.Bool.{lt-ltb, le-ltb}
use Rattle.std.specs.Io.KnownBytes.{Consumes, IsAtEnd}
use Rattle.js_doc.specs.Value.{Value}
use Rattle.js_eval.specs.Result.{ResultTree, IsWithinLimits}
use Rattle.js_eval.specs.declared.evaluation.limits.Limits.{Limits}
use Rattle.js_bundle.specs.Document as bundle
use Rattle.js_bundle.specs.Resource.{Site}
use Rattle.js_output.specs.Cause.{Causes, MayGoOn, IsFirstFault, FailsBy}
use Rattle.js_output.specs.Device.{Tracked, input_limit, IsLeft, Sends, SendsBeginning}
use Rattle.js_output.specs.Input.{IsInputFault}
use Rattle.js_output.specs.Outcome.{output_of, ValueOutcome, output_report, IsLateOrMemory, IsResultOf, IsWalkFault}
use Rattle.js_output.specs.Outcome.{IsEntryOrMemory, IsFinishedFault, IsInstanceFault}
use Rattle.js_output.specs.Report.{Report, Reports, Answers, After, OfInput, StopsBy}
use Rattle.js_output.proofs.CauseLists.{clear-append, clear-apart, first-append, first-apart, first-later}
use Rattle.js_output.specs.declared.fault.Fault.{Fault}
use Rattle.js_output.specs.declared.fault.Fault.TheVariants as fault
use Rattle.js_tree.specs.declared.formats.Format.{Format}

-- ---- the bytes that a source has left

pub some_left : (left : Option (List ℕ)) → (bytes : List ℕ) × IsLeft left bytes
some_left None = ([], tt)
some_left (Some bytes) = (bytes, refl)

append-nil_is : (xs ys : List ℕ) → ys ≡ [] → xs ++ ys ≡ xs
append-nil_is [] ys h = h
append-nil_is (x ∷ xs) ys h = λ i. x ∷ append-nil_is xs ys h i

pub left_all : (old new : Option (List ℕ)) (bytes : List ℕ) → Consumes old new bytes → IsAtEnd new → IsLeft old bytes
left_all None new bytes h e = tt
left_all (Some xs) None bytes h e = absurd h
left_all (Some xs) (Some ys) bytes h e = h ∙ append-nil_is bytes ys e

pub more_left : (old new : Option (List ℕ)) (taken : List ℕ) → input_limit < length taken → Consumes old new taken
    → (bytes : List ℕ) × IsLeft old bytes × (input_limit < length bytes)
more_left None new taken more h = (taken, tt, more)
more_left (Some xs) None taken more h = absurd h
more_left (Some xs) (Some ys) taken more h = (xs, refl, omega (arith, ap length h, length-append taken ys))

-- ---- what is reported of one outcome, and of another that follows from it

module _ {O A D : Type 0} (report : Report O A) (taken : D → Option (List ℕ)) (old new : Tracked D) where
  pub reports-map : (P Q : Result O Fault → Type 0) (answer : Result A Fault)
      → ((outcome : Result O Fault) → P outcome → Q outcome) → Reports report P taken old new answer
      → Reports report Q taken old new answer
  reports-map P Q (Ok answer) f (output, h, is, sent) = (output, f (Ok output) h, is, sent)
  reports-map P Q (Err fault.Memory) f h = tt
  reports-map P Q (Err fault.Read) f h = absurd h
  reports-map P Q (Err fault.Write) f (output, h, begun) = (output, f (Ok output) h, begun)
  reports-map P Q (Err e) f h = f (Err e) h

  -- a cause stands before
  pub reports-early : (causes : Causes) (Then : Result O Fault → Type 0) (e : Fault) → FailsBy causes e
      → Reports report (After causes Then) taken old new (Err e)
  reports-early causes Then fault.Memory h = tt
  reports-early causes Then fault.Read h = absurd h
  reports-early causes Then fault.Write h = absurd h
  reports-early causes Then e h = inl h

-- ---- an input, by its size

pub input-over : {O : Type 0} (bytes : List ℕ) (Then : Result O Fault → Type 0) → input_limit < length bytes
    → OfInput bytes Then (Err fault.InputTooLarge)
input-over {O} bytes Then more =
    subst (λ t. MatchBool t (◌≡◌ {A = Result O Fault} (Err fault.InputTooLarge) (Err fault.InputTooLarge))
    (Then (Err fault.InputTooLarge))) (sym (lt-ltb input_limit (length bytes) more)) refl

-- within the limit it alone decides
pub input-within : {O : Type 0} (bytes : List ℕ) (Then : Result O Fault → Type 0) → length bytes ≤ input_limit
    → (outcome : Result O Fault) → Then outcome → OfInput bytes Then outcome
input-within bytes Then few outcome h =
    subst (λ t. MatchBool t (outcome ≡ Err fault.InputTooLarge) (Then outcome))
    (sym (le-ltb input_limit (length bytes) few)) h

-- ---- what is answered of an input

pub after-clear : {O : Type 0} (causes : Causes) (Then : Result O Fault → Type 0) → MayGoOn causes
    → (outcome : Result O Fault) → Then outcome → After causes Then outcome
after-clear causes Then clear (Ok output) h = (clear, h)
after-clear causes Then clear (Err e) h = inr (clear, h)

pub after-or : {O : Type 0} (causes : Causes) (Then : Result O Fault → Type 0) (outcome : Result O Fault)
    → After causes Then outcome → StopsBy causes outcome ⊎ Then outcome
after-or causes Then (Ok output) (clear, h) = inr h
after-or causes Then (Err e) (inl h) = inl h
after-or causes Then (Err e) (inr (clear, h)) = inr h

module _ {O A D : Type 0} (report : Report O A) (P : List ℕ → Result O Fault → Type 0) (taken : D
    → Option (List ℕ)) (old new : Tracked D) where
  -- it is read whole
  pub answers-reported : (left : Option (List ℕ)) (bytes : List ℕ) (answer : Result A Fault)
      → IsLeft left bytes → Reports report (P bytes) taken old new answer
      → Answers report P [] left taken old new answer
  answers-reported left bytes (Ok answer) is h = (bytes, is, h)
  answers-reported left bytes (Err fault.Memory) is h = tt
  answers-reported left bytes (Err fault.Read) is h = absurd h
  answers-reported left bytes (Err fault.Write) is h = (bytes, is, h)
  answers-reported left bytes (Err e) is h = (bytes, is, h)

  -- it isn't
  pub answers-input : (old_left new_left : Option (List ℕ)) (e : Fault)
      → ((bytes : List ℕ) → input_limit < length bytes → P bytes (Err fault.InputTooLarge)) → IsInputFault e
      → (e ≡ fault.InputTooLarge → (read : List ℕ) × (input_limit < length read) × Consumes old_left new_left read)
      → Answers report P [] old_left taken old new (Err e)
  answers-input old_left new_left fault.Memory over h large = tt
  answers-input old_left new_left fault.Read over h large = tt
  answers-input old_left new_left fault.InputTooLarge over h large =
      let (read, more, consumed) = large refl in
      let (bytes, is, many) = more_left old_left new_left read more consumed in (bytes, is, over bytes many)
  answers-input old_left new_left _ over h large = absurd h

  module _ (causes : Causes) (left : Option (List ℕ)) where
    -- a cause stands before it
    pub answers-early : (e : Fault) → FailsBy causes e
        → Answers report (λ bytes. After causes (P bytes)) causes left taken old new (Err e)
    answers-early fault.Memory h = tt
    answers-early fault.Read h = absurd h
    answers-early fault.Write h = absurd h
    answers-early e h = let (bytes, is) = some_left left in (bytes, is, inl h)

    -- none does
    pub answers-after : MayGoOn causes → (answer : Result A Fault) → Answers report P [] left taken old new answer
        → Answers report (λ bytes. After causes (P bytes)) causes left taken old new answer
    answers-after clear (Err fault.Memory) h = tt
    answers-after clear (Err fault.Read) h = clear
    answers-after clear (Ok answer) (bytes, all, h) = (
      bytes,
      all,
      reports-map report taken old new (P bytes)
          (After causes (P bytes)) (Ok answer) (after-clear causes (P bytes) clear) h,
    )
    answers-after clear (Err fault.Write) (bytes, all, h) = (
      bytes,
      all,
      reports-map report taken old new (P bytes)
          (After causes (P bytes)) (Err fault.Write) (after-clear causes (P bytes) clear) h,
    )
    answers-after clear (Err f) (bytes, all, h) = (bytes, all, after-clear causes (P bytes) clear (Err f) h)

-- ---- two parts of the causes, one after another

module _ {O : Type 0} (xs ys : Causes) (Then : Result O Fault → Type 0) where
  pub after-apart : (outcome : Result O Fault) → After (xs ++ ys) Then outcome → After xs (After ys Then) outcome
  after-apart (Ok output) (clear, h) = let (p, q) = clear-apart xs ys clear in (p, (q, h))
  after-apart (Err e) (inl h) = early (first-apart xs ys e h) where
    early : IsFirstFault xs e ⊎ (MayGoOn xs × IsFirstFault ys e) → After xs (After ys Then) (Err e)
    early (inl f) = inl f
    early (inr f) = inr (f.0, inl f.1)
  after-apart (Err e) (inr (clear, h)) = let (p, q) = clear-apart xs ys clear in inr (p, inr (q, h))

  pub after-together : (outcome : Result O Fault) → After xs (After ys Then) outcome → After (xs ++ ys) Then outcome
  after-together (Ok output) (p, (q, h)) = (clear-append xs ys p q, h)
  after-together (Err e) (inl h) = inl (first-append xs ys e h)
  after-together (Err e) (inr (p, inl h)) = inl (first-later xs ys e p h)
  after-together (Err e) (inr (p, inr (q, h))) = inr (clear-append xs ys p q, h)

  -- the first part has none
  pub after-onto : MayGoOn xs → (outcome : Result O Fault) → After ys Then outcome → After (xs ++ ys) Then outcome
  after-onto clear outcome h = after-together outcome (after-clear xs (After ys Then) clear outcome h)

module _ {O A D : Type 0} (report : Report O A) (P : List ℕ → Result O Fault → Type 0) (taken : D
    → Option (List ℕ)) (old new : Tracked D) (xs ys : Causes) (left : Option (List ℕ)) where
  pub answers-onto : MayGoOn xs → (answer : Result A Fault)
      → Answers report (λ bytes. After ys (P bytes)) ys left taken old new answer
      → Answers report (λ bytes. After (xs ++ ys) (P bytes)) (xs ++ ys) left taken old new answer
  answers-onto clear (Err fault.Memory) h = tt
  answers-onto clear (Err fault.Read) h = clear-append xs ys clear h
  answers-onto clear (Ok answer) (bytes, all, h) = (
    bytes,
    all,
    reports-map report taken old new (After ys (P bytes))
        (After (xs ++ ys) (P bytes)) (Ok answer) (after-onto xs ys (P bytes) clear) h,
  )
  answers-onto clear (Err fault.Write) (bytes, all, h) = (
    bytes,
    all,
    reports-map report taken old new
        (After ys (P bytes)) (After (xs ++ ys) (P bytes)) (Err fault.Write) (after-onto xs ys (P bytes) clear) h,
  )
  answers-onto clear (Err f) (bytes, all, h) = (bytes, all, after-onto xs ys (P bytes) clear (Err f) h)

-- ---- what is reported of a value

module _ (limits : Limits) (docs : bundle.Documents) (entry : Option Site) (v : Value) (format : Format) where
  module _ (t : ResultTree) (is : IsResultOf docs entry v t) (stands : IsWithinLimits limits t) {D : Type 0} (taken : D
      → Option (List ℕ)) (old new : Tracked D) where
    -- the form went out
    pub reports-sent : (valid : Bool) → valid ≡ t.root.valid → Sends taken old new (output_of format t).text
        → Reports output_report (ValueOutcome limits docs entry v format) taken old new (Ok valid)
    reports-sent valid e sent = (output_of format t, (t, is, stands, refl), sym e, sent)

    -- the sink failed
    pub reports-begun : (e : Fault) → (e ≡ fault.Write) × SendsBeginning taken old new (output_of format t).text
        → Reports output_report (ValueOutcome limits docs entry v format) taken old new (Err e)
    reports-begun e (write, begun) =
        subst (λ e. Reports output_report (ValueOutcome limits docs entry v format) taken old new (Err e)) (sym write)
        (output_of format t, (t, is, stands, refl), begun)

  -- there is none
  pub reports-fault : {D : Type 0} (taken : D → Option (List ℕ)) (old new : Tracked D) (e : Fault)
      → IsWalkFault limits docs entry v e → Reports output_report (ValueOutcome limits docs entry v format) taken old
      new (Err e)
  reports-fault taken old new fault.Memory h = tt
  reports-fault taken old new fault.TooLarge h = (refl, h)
  reports-fault taken old new _ h = absurd h

pub walk-late : (limits : Limits) (docs : bundle.Documents) (entry : Option Site) (v : Value) (e : Fault)
    → IsWalkFault limits docs entry v e → IsLateOrMemory e
walk-late limits docs entry v fault.Memory h = tt
walk-late limits docs entry v fault.TooLarge h = tt
walk-late limits docs entry v _ h = absurd h

-- ---- the faults over finished schemas

pub entry-finished : (e : Fault) → IsEntryOrMemory e → IsFinishedFault e
entry-finished fault.Memory h = tt
entry-finished (fault.Entry e) h = tt
entry-finished _ h = absurd h

pub instance-finished : (e : Fault) → IsInstanceFault e → IsFinishedFault e
instance-finished (fault.Entry e) h = tt
instance-finished _ h = h
