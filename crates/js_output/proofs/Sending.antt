-- What a sink did with a text that was put into it piece by piece.
use Rattle.std.proofs.Common.{◌≡◌, ℕ, List, [], Option, true, false, refl, sym, ◌∙◌, arith}
use Rattle.std.proofs.KnownBytes.{Appends-nil}
use Rattle.js_doc.specs.BytesOut.{Goes, Stops}
use Rattle.js_output.specs.Device.{Tracked, Sends, SendsBeginning, progress_of}

module _ {D : Type 0} (taken : D → Option (List ℕ)) (old new : Tracked D) (bytes : List ℕ) where
  -- a whole text was put
  pub sent-whole : old.failed ≡ false → Goes (progress_of taken old) (progress_of taken new) bytes
      → Sends taken old new bytes
  sent-whole stood (went, calls, same) = (went, same ∙ stood, calls.1)

  -- a prefix of it was
  pub sent-part : Stops (progress_of taken old) (progress_of taken new) bytes → SendsBeginning taken old new bytes
  sent-part (part, left, e, went, calls, stopped) = ((part, left, sym e, went), stopped, calls.1)

-- it stood failed before
pub sent-none : {D : Type 0} (taken : D → Option (List ℕ)) (sink : Tracked D) (text : List ℕ) → sink.failed ≡ true
    → SendsBeginning taken sink sink text
sent-none taken sink text failed = (([], text, refl, Appends-nil (taken sink.device)), failed, omega arith)
