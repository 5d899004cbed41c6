use Rattle.std.proofs.Common.{◌≡◌, ℕ, List, Bool, true, false, if◌then◌else◌, Some, None, Result}
use Rattle.std.proofs.Common.{Ok, Err, IfOk, IfErr, IsUtf8, refl, ap, ◌∙◌}
use Rattle.std.specs.Str.{is_utf8}
use Rattle.std.proofs.lemmas.Bool.{false≢true}
use Rattle.std.proofs.lemmas.Str.{is_utf8-from_IsUtf8, IsUtf8-from_is_utf8}
use Rattle.serde_json.specs.Data.{Data}
use Rattle.serde_json.specs.Read.{read as read_json}
use Rattle.serde_json.specs.View.{view}
use Rattle.js_output.specs.SuiteText.{SuiteGroup, groups_in, groups_seen, suite_found, suite_read}
use Rattle.js_output.specs.SuiteText.{suite_reading, IsMisfit, IsSuiteFault}
use Rattle.js_output.specs.declared.fault.Fault.{Fault}
use Rattle.js_output.specs.declared.fault.Fault.TheVariants as fault
use Rattle.js_output.specs.declared.fault.SuiteFault.TheVariants as suite_fault
use Rattle.js_output.proofs.suite_text.suite_from.Goals as goal

reads : (bytes : List ℕ) (d : Data) → IsUtf8 bytes × (read_json bytes ≡ Some d)
    → suite_reading bytes ≡ suite_found (groups_in d)
unfolding suite_reading
reads bytes d (utf8, read) = rw (is_utf8-from_IsUtf8 bytes utf8, read) refl

not_json : (bytes : List ℕ) (utf8 : Bool) → is_utf8 bytes ≡ utf8 → (IsUtf8 bytes → read_json bytes ≡ None)
    → (if utf8 then suite_read (read_json bytes) else Err suite_fault.NotJson) ≡ Err suite_fault.NotJson
not_json bytes true e h = ap suite_read (h (IsUtf8-from_is_utf8 bytes e))
not_json bytes false e h = refl

reads_nothing : (bytes : List ℕ) → (IsUtf8 bytes → read_json bytes ≡ None)
    → suite_reading bytes ≡ Err suite_fault.NotJson
unfolding suite_reading
reads_nothing bytes h = not_json bytes (is_utf8 bytes) refl h

module _ (bytes : List ℕ) (d : Data) (is : IsUtf8 bytes × (read_json bytes ≡ Some d)) {R : Type 0} where
  groups_read : (seen : R → List SuiteGroup) (result : Result R Fault) → IfOk result (λ r. groups_in d ≡ Ok (seen r))
      → IfOk result (λ r. suite_reading bytes ≡ Ok (seen r))
  groups_read seen (Ok r) h = reads bytes d is ∙ ap suite_found h
  groups_read seen (Err f) h = tt

  misfit_read : (result : Result R Fault) → IfErr result (IsMisfit (groups_in d))
      → IfErr result (IsSuiteFault (suite_reading bytes))
  misfit_read (Ok r) h = tt
  misfit_read (Err fault.Memory) h = tt
  misfit_read (Err (fault.Suite (suite_fault.BadSuite place))) h = reads bytes d is ∙ ap suite_found h
  misfit_read (Err _) h = absurd h

pub returns-in-Ok-clause-ok : goal.returns-in-Ok-clause-ok
returns-in-Ok-clause-ok c = groups_read c.args.bytes.now (view c.in-Ok.suite) c.in-Ok.ensures.ok
    (λ v. groups_seen v.items) c.groups_in.result c.groups_in.ensures.ok

pub returns-in-Ok-clause-err : goal.returns-in-Ok-clause-err
returns-in-Ok-clause-err c =
    misfit_read c.args.bytes.now (view c.in-Ok.suite) c.in-Ok.ensures.ok c.groups_in.result c.groups_in.ensures.err

pub returns-in-Err-2-clause-err : goal.returns-in-Err-2-clause-err
returns-in-Err-2-clause-err c = reads_nothing c.args.bytes.now
    (c.in-Err.ensures.err (λ memory. absurd (false≢true (c.if-is_memory.ensures.1 memory))))
