-- What went out of a text.
use Rattle.std.proofs.Common.{◌≡◌, List, ℕ, Option, Result, Ok, Err, OnOk, Bool, inl, inr, is_err}
use Rattle.std.specs.Io.KnownBytes.{Appends}
use Rattle.js_output.specs.Device.{AppendsBeginning}
use Rattle.js_command.specs.Answer.{IsWrittenOrFailed}

pub written_or_failed : {A E : Type 0} (old new : Option (List ℕ)) (failed : Bool) (text : List ℕ) (result : Result A E)
    → OnOk result (Appends old new text) → AppendsBeginning old new text → failed ≡ is_err result
    → IsWrittenOrFailed old new failed text
written_or_failed old new failed text (Ok a) went begun stands = inl went
written_or_failed old new failed text (Err e) went begun stands = inr (stands, begun)
