-- What flag says is its verdict, and the text of that.
use Rattle.std.proofs.Common.{◌≡◌, ℕ, List, length, nat_lt, MatchBool, Option, Result, Ok, Err, Bool, true, false}
use Rattle.std.proofs.Common.{sym, ap, ◌∙◌}
use Rattle.js_bundle.specs.Document as bundle
use Rattle.js_bundle.specs.Resource.{Site}
use Rattle.js_doc.specs.Value.{Value}
use Rattle.js_doc.specs.declared.reading.ReadFault.{ReadFault}
use Rattle.js_tree.specs.declared.formats.Format.TheVariants.{Flag}
use Rattle.js_eval.specs.declared.evaluation.limits.Limits.{Limits}
use Rattle.js_output.specs.Device.{input_limit}
use Rattle.js_output.specs.Outcome.{Output, InstanceOutcomeWithin, ReadOutcome, TextOutcome}
use Rattle.js_output.specs.Reading.{reading}
use Rattle.js_output.specs.declared.fault.Fault.{Fault}
use Rattle.js_output.specs.declared.fault.Fault.TheVariants as fault
use Rattle.jschema_c.specs.LastCall.{flag_text}
use Rattle.jschema_c.specs.Session.{IsOutput}

module _ (limits : Limits) (docs : bundle.Documents) (entry : Option Site) (bytes : List ℕ) (output : Output) where
  of_value : (read : Result Value ReadFault) → ReadOutcome limits docs entry Flag read (Ok output)
      → output.text ≡ flag_text output.valid
  of_value (Ok v) (t, is, stands, e) = ap (λ o. o.text) e ∙ ap flag_text (sym (ap (λ o. o.valid) e))
  of_value (Err f) e = absurd (cc (e))

  of_size : (over : Bool) → MatchBool over (◌≡◌ {A = Result Output Fault} (Ok output) (Err fault.InputTooLarge))
      (TextOutcome limits docs entry Flag bytes (Ok output)) → output.text ≡ flag_text output.valid
  of_size true e = absurd (cc (e))
  of_size false h = of_value (reading bytes) h

  pub flag_is : (valid : Bool) → InstanceOutcomeWithin limits docs entry Flag bytes (Ok output) → output.valid ≡ valid
      → IsOutput (InstanceOutcomeWithin limits docs entry Flag bytes) valid (flag_text valid)
  flag_is valid h e =
      (output, h, e, ap flag_text (sym e) ∙ sym (of_size (nat_lt input_limit (length bytes)) h))
