-- What a suite answers, by where it stops.
use Rattle.std.proofs.Common.{◌≡◌, ℕ, List, Option, Result, Ok, Err, refl, sym, subst}
use Rattle.js_bundle.specs.Document as bundle
use Rattle.js_output.specs.Device.{Tracked}
use Rattle.js_output.specs.Suite.{AreLines, ReadLines, SendsLines, lines_report}
use Rattle.js_output.specs.SuiteText.{SuiteGroup, IsSuiteFault}
use Rattle.js_output.specs.Report.{Reports}
use Rattle.js_output.specs.declared.fault.Fault.{Fault}
use Rattle.js_output.specs.declared.fault.Fault.TheVariants as fault
use Rattle.js_output.specs.declared.fault.SuiteFault.{SuiteFault}
use Rattle.js_output.specs.declared.suite_lines.Counts.{Counts}
use Rattle.js_output.specs.declared.suite_lines.TestLine.{TestLine}

-- of what the suite's text is read as
module _ {D : Type 0} (documents : bundle.Documents) (taken : D
    → Option (List ℕ)) (found : Result (List SuiteGroup) SuiteFault) where
  -- it has a fault
  pub suite-fault : (sink : Tracked D) (e : Fault) → IsSuiteFault found e
      → Reports lines_report (ReadLines documents found) taken sink sink (Err e)
  suite-fault sink fault.Memory h = tt
  suite-fault sink (fault.Suite e) h = subst (λ r. ReadLines documents r (Err (fault.Suite e))) (sym h) refl
  suite-fault sink _ h = absurd h

  -- its lines are reported
  pub suite-lines : (groups : List SuiteGroup) (lines : List TestLine) (old new : Tracked D)
      (answer : Result Counts Fault) → found ≡ Ok groups
      → AreLines documents 0 groups lines → SendsLines taken old new lines answer
      → Reports lines_report (ReadLines documents found) taken old new answer
  suite-lines groups lines old new (Ok counts) is h (counted, sent) =
      (lines, subst (λ r. ReadLines documents r (Ok lines)) (sym is) h, counted, sent)
  suite-lines groups lines old new (Err fault.Memory) is h sent = tt
  suite-lines groups lines old new (Err fault.Write) is h sent =
      (lines, subst (λ r. ReadLines documents r (Ok lines)) (sym is) h, sent)
  suite-lines groups lines old new (Err _) is h sent = absurd sent
