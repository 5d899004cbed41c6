-- What stands after the last flush, by what was answered before it.
use Rattle.std.proofs.Common.{◌≡◌, ◌≢◌, ◌∙◌, ℕ, ◌+◌, ◌-◌, ◌^◌, min, List, [], Option, Result, Ok, Err, IfOk}
use Rattle.std.proofs.Common.{IfErr, OnOk, Bool, true, false, inl, inr, is_err, sym, ap, subst}
use Rattle.std.proofs.KnownBytes.{Appends-kept}
use Rattle.std.proofs.lemmas.List.{append-nil}
use Rattle.std.specs.Io.KnownBytes.{Appends, Keeps}
use Rattle.js_output.specs.Device.{Tracked, AppendsBeginning, Unflushed, FlushedOnce}
use Rattle.js_output.specs.Outcome.{Output}
use Rattle.js_output.specs.declared.fault.Fault.{Fault}
use Rattle.js_output.specs.declared.fault.Fault.TheVariants as fault
use Rattle.js_command.specs.Answer.{Performs, IsReported, IsReason}
use Rattle.js_command.specs.code.Tasks.{answer_after_flush}

-- a text that went out whole is a prefix of itself
pub whole_begins : (old between new : Option (List ℕ)) (text : List ℕ) → Appends old between text → Keeps between new
    → AppendsBeginning old new text
whole_begins old between new text sent kept =
    (text, [], sym (append-nil text), Appends-kept old between new text sent kept)

-- what was answered is the reason, also after a flush
pub reason_of : {D : Type 0} (P : Result Output Fault → Type 0) (taken : D
    → Option (List ℕ)) (old between new : Tracked D) (e : Fault)
    → Performs P taken old between (Err e) → Keeps (taken between.device) (taken new.device)
    → (between.failed ≡ true → new ≡ between)
    → IsReason P (taken old.device) (taken new.device) new.failed e
reason_of P taken old between new fault.Memory h kept stays = tt
reason_of P taken old between new fault.Write (output, h, begun) kept stays =
    let (sent, unsent, is, went) = begun.0 in
    let stands : new.failed ≡ true = ap (λ s. s.failed) (stays begun.1) ∙ begun.1 in (
      stands,
      (
        output,
        h,
        (sent, unsent, is, Appends-kept (taken old.device) (taken between.device) (taken new.device) sent went kept),
      ),
    )
reason_of P taken old between new _ h kept stays = h

-- all went out, and then the flush failed
pub reason_of_flush : {D : Type 0} (P : Result Output Fault → Type 0) (taken : D
    → Option (List ℕ)) (old between new : Tracked D) (valid : Bool) (e : Fault)
    → Performs P taken old between (Ok valid) → Keeps (taken between.device) (taken new.device)
    → new.failed ≡ true → e ≡ fault.Write
    → IsReason P (taken old.device) (taken new.device) new.failed e
reason_of_flush P taken old between new valid e (output, h, is, sent) kept stands write =
    subst (IsReason P (taken old.device) (taken new.device) new.failed) (sym write) (
      stands,
      (output, h, whole_begins (taken old.device) (taken between.device) (taken new.device) output.text sent.0 kept),
    )

-- the device was flushed as the last thing, unless it had failed
pub flushed_at_last : {D : Type 0} (was : Bool) (old between new : Tracked D) → between.failed ≡ was
    → Unflushed old between
    → (between.failed ≡ false → new.flushes ≡ min (between.flushes + 1) (2 ^ 64 - 1))
    → (between.failed ≡ false → new.last_flush ≡ new.calls)
    → (between.failed ≡ true → new ≡ between) → FlushedOnce old new
flushed_at_last false old between new is none counts last stays =
    inl (counts is ∙ ap (λ n. min (n + 1) (2 ^ 64 - 1)) none.0, last is)
flushed_at_last true old between new is none counts last stays =
    inr (
      ap (λ s. s.failed) (stays is)
          ∙ is,
      (ap (λ s. s.flushes) (stays is) ∙ none.0, ap (λ s. s.last_flush) (stays is) ∙ none.1),
    )

-- ---- by the first fault

pub reported_after : {D B : Type 0} (P : Result Output Fault → Type 0) (taken : D
    → Option (List ℕ)) (old between new : Tracked D) (answer : Result Bool Fault) (flushed : Result B Fault)
    → Performs P taken old between answer → Keeps (taken between.device) (taken new.device)
    → IfOk (answer_after_flush answer flushed) (λ valid. IsReported P valid (taken old.device) (taken new.device))
reported_after P taken old between new (Err f) flushed h kept = tt
reported_after P taken old between new (Ok valid) (Err f) h kept = tt
reported_after P taken old between new (Ok valid) (Ok b) (output, h, same, sent) kept =
    (output, h, same, Appends-kept (taken old.device) (taken between.device) (taken new.device) output.text sent.0 kept)

pub whole_after : {B : Type 0} (answer : Result Bool Fault) (flushed : Result B Fault) (failed : Bool)
    → failed ≡ is_err flushed → OnOk (answer_after_flush answer flushed) (failed ≡ false)
whole_after (Err f) flushed failed is = tt
whole_after (Ok valid) (Err f) failed is = tt
whole_after (Ok valid) (Ok b) failed is = is

pub nothing_after : {D B : Type 0} (taken : D
    → Option (List ℕ)) (old between new : Tracked D) (answer : Result Bool Fault) (flushed : Result B Fault)
    → IfErr answer (λ e. e ≢ fault.Write → between ≡ old) → Keeps (taken between.device) (taken new.device)
    → IfErr flushed (λ e. e ≡ fault.Write)
    → IfErr (answer_after_flush answer flushed) (λ e. e ≢ fault.Write → Keeps (taken old.device) (taken new.device))
nothing_after taken old between new (Err f) flushed nothing kept write = λ other.
    subst (λ s. Keeps (taken s.device) (taken new.device)) (nothing other) kept
nothing_after taken old between new (Ok valid) (Err f) nothing kept write = λ other. absurd (other write)
nothing_after taken old between new (Ok valid) (Ok b) nothing kept write = tt

pub reason_after : {D B : Type 0} (P : Result Output Fault → Type 0) (taken : D
    → Option (List ℕ)) (old between new : Tracked D) (answer : Result Bool Fault) (flushed : Result B Fault)
    → Performs P taken old between answer → Keeps (taken between.device) (taken new.device)
    → new.failed ≡ is_err flushed → (between.failed ≡ true → new ≡ between)
    → IfErr flushed (λ e. e ≡ fault.Write)
    → IfErr (answer_after_flush answer flushed) (IsReason P (taken old.device) (taken new.device) new.failed)
reason_after P taken old between new (Err f) flushed h kept failed stays write =
    reason_of P taken old between new f h kept stays
reason_after P taken old between new (Ok valid) (Err f) h kept failed stays write =
    reason_of_flush P taken old between new valid f h kept failed write
reason_after P taken old between new (Ok valid) (Ok b) h kept failed stays write = tt
