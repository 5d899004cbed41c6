-- A reader or a writer, with what is known of its calls.
use Rattle.std.specs.Prelude.{◌≡◌, ℕ, ◌+◌, ◌-◌, ◌^◌, ◌≤◌, ◌⊎◌, min, Bool, true, false, List, ◌++◌}
use Rattle.std.specs.Prelude.{length, ⊤, refl, Option, Some, None, Result, Ok, Err}
use Rattle.std.specs.Coded.{Coded, code_by, coded×, coded_ℕ, coded_bool}
use Rattle.std.specs.Io.KnownBytes.{Appends}
use Rattle.js_doc.specs.BytesOut.{Progress}
use Rattle.js_output.specs.declared.fault.Fault.{Fault}
use Rattle.js_output.specs.declared.fault.Fault.TheVariants as fault

-- `failed` once a call has failed; how many calls were made, how many of them were flushes, and which of them was the
-- last flush, counted from 1 (0 where none was). A reader is never flushed.
pub record Tracked (D : Type 0) : Type 0 where
  pub device : D
  pub failed : Bool
  pub calls : ℕ
  pub flushes : ℕ
  pub last_flush : ℕ

abbrev pub tracked_code : {D : Type 0} → Coded D → Coded (Tracked D)
tracked_code {D} d =
    code_by (D × (Bool × (ℕ × (ℕ × ℕ)))) (coded× d (coded× coded_bool (coded× coded_ℕ (coded× coded_ℕ coded_ℕ))))
    (λ t. (t.device, (t.failed, (t.calls, (t.flushes, t.last_flush)))))
    (λ p. record { device = p.0; failed = p.1.0; calls = p.1.1.0; flushes = p.1.1.1.0; last_flush = p.1.1.1.1 })
    (λ _. refl)

-- the most bytes that are read of an input
abbrev pub input_limit : ℕ
input_limit = 16777216

-- `bytes` are all that a reader has left, where that is known
abbrev pub IsLeft : Option (List ℕ) → List ℕ → Type 0
IsLeft None bytes = ⊤
IsLeft (Some known) bytes = known ≡ bytes

-- a prefix of `bytes` was written
abbrev pub AppendsBeginning : Option (List ℕ) → Option (List ℕ) → List ℕ → Type 0
AppendsBeginning old new bytes = (sent : List ℕ) × (unsent : List ℕ) × (bytes ≡ sent ++ unsent) × Appends old new sent

-- ---- what a sink did with a text, by what its writer has taken, where that is known

-- the text was written, in at most one call for each byte
abbrev pub Sends : {D : Type 0} → (D → Option (List ℕ)) → Tracked D → Tracked D → List ℕ → Type 0
Sends taken old new text = Appends (taken old.device) (taken new.device) text × (new.failed ≡ false)
    × (new.calls ≤ old.calls + length text)

-- the sink has failed, and a prefix was written
abbrev pub SendsBeginning : {D : Type 0} → (D → Option (List ℕ)) → Tracked D → Tracked D → List ℕ → Type 0
SendsBeginning taken old new text = AppendsBeginning (taken old.device) (taken new.device) text × (new.failed ≡ true)
    × (new.calls ≤ old.calls + length text)

-- one of these, by what is returned
abbrev pub SendsOrFails : {D T : Type 0} → (D → Option (List ℕ)) → Tracked D → Tracked D → List ℕ
    → Result T Fault → Type 0
SendsOrFails taken old new text (Ok _) = Sends taken old new text
SendsOrFails taken old new text (Err f) = (f ≡ fault.Write) × SendsBeginning taken old new text

-- ---- flushes

-- not flushed, whatever else was done
abbrev pub Unflushed : {D : Type 0} → Tracked D → Tracked D → Type 0
Unflushed old new = (new.flushes ≡ old.flushes) × (new.last_flush ≡ old.last_flush)

-- flushed once, as the last call; or a call had failed before, so that no flush was made
abbrev pub FlushedOnce : {D : Type 0} → Tracked D → Tracked D → Type 0
FlushedOnce old new = ((new.flushes ≡ min (old.flushes + 1) (2 ^ 64 - 1)) × (new.last_flush ≡ new.calls))
    ⊎ ((new.failed ≡ true) × Unflushed old new)

-- how far the bytes have come that were put into it piece by piece
abbrev pub progress_of : {D : Type 0} → (D → Option (List ℕ)) → Tracked D → Progress
progress_of taken sink = record { gone = taken sink.device; calls = sink.calls; stopped = sink.failed }
