-- The text of a document that a session holds, as C sees it.
use Rattle.std.specs.Prelude.{◌≡◌, ℕ, List, [], Option, Some, None, Result, Ok, Err, option_map, slice_get}
use Rattle.js_bundle.specs.Document.{Document}
use Rattle.js_doc.specs.Value.{Value}
use Rattle.js_output.specs.Values.{value_line}
use Rattle.js_output.specs.declared.fault.Fault.{Fault}
use Rattle.js_output.specs.declared.fault.Fault.TheVariants as fault
use Rattle.jschema_c.specs.LastCall.{Says}
use Rattle.jschema_c.specs.declared.last_call.LastCall.{LastCall}
use Rattle.jschema_c.specs.declared.session.Phase.{Phase}
use Rattle.jschema_c.specs.declared.session.Phase.TheVariants as phase
use Rattle.jschema_c.specs.declared.status.Status.{Status}
use Rattle.jschema_c.specs.declared.status.Status.TheVariants as status

-- the value of the document with this number, in the order of adding; none once they are finished
abbrev pub root_in : Phase → ℕ → Option Value
root_in (phase.Adding documents) number = option_map (λ d. d.root) (slice_get documents number)
root_in (phase.Finished schemas) number = None

-- the text is its line
abbrev pub IsLineOf : Option Value → List ℕ → Type 0
IsLineOf root text = option_map value_line root ≡ Some text

abbrev pub ShowsDocument : Phase → ℕ → List ℕ → Result Status Fault → Type 0
ShowsDocument state number text (Ok status.Done) = IsLineOf (root_in state number) text
ShowsDocument state number text (Ok status.Misused) = (root_in state number ≡ None) × (text ≡ [])
ShowsDocument state number text (Ok _) = ⊥
ShowsDocument state number text (Err f) = f ≡ fault.Memory

abbrev pub ShowCall : Phase → ℕ → Status → LastCall → Type 0
ShowCall state number answered said = (given : List ℕ) × (came : Result Status Fault)
    × ShowsDocument state number given came × Says given came answered said
