-- What a call leaves in its handle, by what it came to.
use Rattle.std.specs.Prelude.{◌≡◌, ℕ, List, [], ◌∷◌, ◌++◌, length, take, drop, Bool, Option, Some, None}
use Rattle.std.specs.Prelude.{IsSomeAnd, Result, Ok, Err}
use Rattle.js_doc.specs.Compact.{compact}
use Rattle.js_tree.specs.Form.{flag}
use Rattle.js_output.specs.Line.{fault_line}
use Rattle.js_output.specs.declared.fault.Fault.{Fault}
use Rattle.jschema_c.specs.Refusal.{AreParts, IsRefusal}
use Rattle.jschema_c.specs.declared.last_call.LastCall.{LastCall}
use Rattle.jschema_c.specs.declared.status.Status.{Status}
use Rattle.jschema_c.specs.declared.status.Status.TheVariants as status

-- the output of flag, a JSON text with a line feed
abbrev pub flag_text : Bool → List ℕ
flag_text valid = compact (flag valid) ++ 10 ∷ []

-- that of a verdict, where there is one, or else what was written
abbrev pub verdict_or : List ℕ → Option Bool → List ℕ
verdict_or written None = written
verdict_or written (Some valid) = flag_text valid

abbrev pub text_in : LastCall → List ℕ
text_in said = verdict_or said.text.items said.verdict

-- no text, and nothing refused
pub record IsSilent (said : LastCall) : Type 0 where
  pub text : text_in said ≡ []
  pub refusal : said.refusal ≡ None

-- the line of a refusal, and its parts
pub record SaysRefusal (f : Fault) (said : LastCall) : Type 0 where
  pub refusal : IsRefusal f
  pub line : text_in said ≡ fault_line f
  pub parts : IsSomeAnd said.refusal (AreParts f)

-- a refusal is answered with its line and its parts, out of memory with neither
abbrev pub SaysFault : Fault → Status → LastCall → Type 0
SaysFault f status.Refused said = SaysRefusal f said
SaysFault f status.Failed said = IsSilent said
SaysFault f _ said = ⊥

-- of what a call comes to: its own status with the text that it gave, or its fault
abbrev pub Says : List ℕ → Result Status Fault → Status → LastCall → Type 0
Says given (Ok s) answered said = (answered ≡ s) × (text_in said ≡ given) × (said.refusal ≡ None)
Says given (Err f) answered said = SaysFault f answered said

-- as much of the text as fits is copied, and the rest stays
abbrev pub copied : List ℕ → List ℕ → List ℕ
copied text out = take (length out) text ++ drop (length text) out
