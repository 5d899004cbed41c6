-- Where parts of an upgraded document come from, as C sees it.
use Rattle.std.specs.Prelude.{◌≡◌, ◌<◌, ◌⊎◌, ℕ, List, [], ◌∷◌, ◌++◌, length, map, Option, Some, None, Result, Ok, Err}
use Rattle.std.specs.Prelude.{⊤}
use Rattle.std.specs.Str.{IsUtf8}
use Rattle.js_doc.specs.Pointer.{Tokens, pointer_text}
use Rattle.js_doc.specs.Reading.{IsReadAs, IsReadFault}
use Rattle.js_doc.specs.Value.{Value, Values, items, list, null, text}
use Rattle.js_doc.specs.declared.reading.ReadFault.{ReadFault}
use Rattle.js_output.specs.Device.{input_limit}
use Rattle.js_output.specs.Documents.{unread_document}
use Rattle.js_output.specs.Values.{value_line}
use Rattle.js_output.specs.declared.fault.Fault.{Fault}
use Rattle.js_output.specs.declared.fault.Fault.TheVariants as fault
use Rattle.js_upgrade.specs.Originals.{original_in}
use Rattle.js_upgrade.specs.declared.dialect.Dialect.{Dialect}
use Rattle.jschema_c.specs.Locating.{ArePointers, AreUtf8}
use Rattle.jschema_c.specs.LastCall.{Says}
use Rattle.jschema_c.specs.Upgrading.{assumed_in}
use Rattle.jschema_c.specs.declared.last_call.LastCall.{LastCall}
use Rattle.jschema_c.specs.declared.status.Status.{Status}
use Rattle.jschema_c.specs.declared.status.Status.TheVariants as status

-- ---- the text

-- the pointer's text, or null where nothing stands
abbrev pub origin_told : Option Tokens → Value
origin_told None = null
origin_told (Some tokens) = text (pointer_text tokens)

abbrev pub origins_told : Dialect → Value → List Tokens → Values
origins_told assumed root pointers = map (λ p. origin_told (original_in assumed root p)) pointers

abbrev pub origins_text : Dialect → Value → List Tokens → List ℕ
origins_text assumed root pointers = value_line (list (items (origins_told assumed root pointers)))

-- ---- what comes of a call

abbrev pub Traced : List ℕ → List ℕ → List ℕ → List ℕ → List ℕ → Type 0
Traced uri document pointers ends said =
    (assumed : Dialect) × (assumed_in uri ≡ Some assumed) × ((root : Value) × IsReadAs document (Ok root)
    × ((ps : List Tokens) × ArePointers pointers 0 ends ps × (said ≡ origins_text assumed root ps)))

-- the URI names no dialect, or these are no pointers
abbrev pub CannotTrace : List ℕ → List ℕ → List ℕ → Type 0
CannotTrace uri pointers ends =
    (IsUtf8 uri → assumed_in uri ≡ None) ⊎ ((ps : List Tokens) → AreUtf8 ps → ¬ (ArePointers pointers 0 ends ps))

-- the document isn't read
abbrev pub RefusesOriginal : List ℕ → Fault → Type 0
RefusesOriginal document fault.Memory = ⊤
RefusesOriginal document fault.InputTooLarge = input_limit < length document
RefusesOriginal document f = (e : ReadFault) × IsReadFault document e × (f ≡ unread_document 0 e)

abbrev pub Traces : List ℕ → List ℕ → List ℕ → List ℕ → List ℕ → Result Status Fault → Type 0
Traces uri document pointers ends said (Ok status.Done) = Traced uri document pointers ends said
Traces uri document pointers ends said (Ok status.Misused) = (said ≡ []) × CannotTrace uri pointers ends
Traces uri document pointers ends said (Ok _) = ⊥
Traces uri document pointers ends said (Err f) = RefusesOriginal document f

abbrev pub TraceCall : List ℕ → List ℕ → List ℕ → List ℕ → Status → LastCall → Type 0
TraceCall uri document pointers ends answered said = (given : List ℕ) × (came : Result Status Fault)
    × Traces uri document pointers ends given came × Says given came answered said
