-- Whether the standard input is read, and what is answered where it stands failed.
use Rattle.std.proofs.Common.{◌≡◌, ◌≢◌, ◌↔◌, ℕ, Result, Ok, Err, IsErrOf, Bool, true, refl, sym, subst}
use Rattle.js_output.specs.Device.{Tracked}
use Rattle.js_output.specs.declared.fault.Fault.{Fault}
use Rattle.js_output.specs.declared.fault.Fault.TheVariants as fault
use Rattle.js_command.specs.Answer.{UsesInput}
use Rattle.js_command.specs.Status.{fault_status, misuse_status}
use Rattle.js_command.specs.Words.{Request, pair, check, suite, places}
use Rattle.js_command.specs.code.Tasks.{answer_after_flush, IsMisuse, IsReadOrMemory, ReadsInput}
use Rattle.js_command.specs.declared.words.Misuse.{Misuse}
use Rattle.js_command.specs.declared.words.Misuse.TheVariants as misuse

pub pair_reads : (answer : Result Bool Fault) (failed : Bool)
    → (answer ≢ Err fault.Memory → IsErrOf answer fault.Read ↔ (failed ≡ true)) → failed ≡ true → IsReadOrMemory answer
pair_reads (Err fault.Memory) failed read stands = tt
pair_reads (Err _) failed read stands = subst IsReadOrMemory (sym ((read (λ e. cc)).1 stands)) tt
pair_reads (Ok valid) failed read stands = subst IsReadOrMemory (sym ((read (λ e. cc)).1 stands)) tt

reads_first : {B : Type 0} (answer : Result Bool Fault) (flushed : Result B Fault) → IsReadOrMemory answer
    → IsReadOrMemory (answer_after_flush answer flushed)
reads_first (Err f) flushed h = h
reads_first (Ok valid) flushed h = absurd h

-- a flush doesn't matter
pub input_after : {D B : Type 0} (request : Request) (old new : Tracked D) (answer : Result Bool Fault)
    (flushed : Result B Fault) → ReadsInput request old new answer
    → ReadsInput request old new (answer_after_flush answer flushed)
input_after pair old new answer flushed h = λ stands. reads_first answer flushed (h stands)
input_after (check format instance entry pairs) old new answer flushed h = h
input_after (suite file pairs) old new answer flushed h = h
input_after (places pairs) old new answer flushed h = h

read_status : (f : Fault) → IsReadOrMemory (Err f) → fault_status f ≡ 4
read_status fault.Memory h = refl
read_status fault.Read h = refl
read_status _ h = absurd h

module _ {D : Type 0} (asked : Result Request Misuse) (request : Request) (asks : asked ≡ Ok request)
    (old new : Tracked D) where
  uses_by : (answer : Result Bool Fault) (status : ℕ) (r : Request) → ReadsInput r old new answer
      → (IsReadOrMemory answer → status ≡ 4) → UsesInput (Ok r) old new status
  uses_by answer status pair h ends = λ stands. ends (h stands)
  uses_by answer status (check format instance entry pairs) h ends = h
  uses_by answer status (suite file pairs) h ends = h
  uses_by answer status (places pairs) h ends = h

  pub uses_err : (f : Fault) → ReadsInput request old new (Err f) → UsesInput asked old new (fault_status f)
  uses_err f h = subst (λ a. UsesInput a old new (fault_status f)) (sym asks)
      (uses_by (Err f) (fault_status f) request h (read_status f))

ok_is_no_err : (r : Request) (m : Misuse) → ¬ (◌≡◌ {A = Result Request Misuse} (Ok r) (Err m))
ok_is_no_err r m = λ e. cc

-- words that ask for nothing
pub uses_none : {D : Type 0} (asked : Result Request Misuse) (m : Misuse) (source : Tracked D) (status : ℕ)
    → IsMisuse asked m → status ≡ misuse_status m → UsesInput asked source source status
uses_none (Ok pair) misuse.Memory source status h e = λ stands. e
uses_none (Ok pair) misuse.OtherForm source status h e = λ stands. absurd (ok_is_no_err pair misuse.OtherForm h)
uses_none (Ok pair) misuse.OddPairs source status h e = λ stands. absurd (ok_is_no_err pair misuse.OddPairs h)
uses_none (Ok (check format instance entry pairs)) m source status h e = refl
uses_none (Ok (suite file pairs)) m source status h e = refl
uses_none (Ok (places pairs)) m source status h e = refl
uses_none (Err f) m source status h e = refl
